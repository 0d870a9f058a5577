use Rattle.std.proofs.Common.{refl, rules, arith}
use Rattle.std.proofs.lemmas.Option.{slice_get_read}
use Rattle.lfg_context.proofs.Growing.{are_made_grown, made_grown, grown_refl, grown_trans, same_picks_refl, same_picks_trans}
use Rattle.lfg_instant.specs.Annotations.{instance_of}
use Rattle.lfg_instant.proofs.MadeLaws.{picks_made_first, made_pushed, made_nothing}
use Rattle.lfg_instant.proofs.StringLaws.{strings_start, strings_step, strings_done, strings_counted}
use Rattle.lfg_instant.proofs.annotation.Instance.nodes.Goals as goal

pub loop-number-init : goal.loop-number-init
loop-number-init c = record {
  each = rw c.new-found.ensures.items (strings_start (instance_of c.args.self.now) c.args.des.now c.in-Some.alternatives.now c.args.ctx.now);
  count = search rules;
  made = made_nothing _ _ _ c.new-found.ensures.items;
  ctx_made = c.requires.ctx_made;
  alternatives_made = picks_made_first c.args.picks.now _ c.in-Some.alternatives.now c.in-Some.ensures c.requires.picks_made;
  grown = grown_refl _;
  same_picks = same_picks_refl _;
}

pub loop-number-preserved : goal.loop-number-preserved
loop-number-preserved c = record {
  each = strings_step (instance_of c.args.self.now) c.args.des.now c.in-Some.alternatives.now c.args.ctx.now c.loop-number.number _ c.loop-number.found.items c.push-in-loop-number.new.self.items
      c.index-alternatives-number.result c.in_ok-met.met c.in_ok-node-2.field-0
      (slice_get_read c.in-Some.alternatives.now _ c.loop-number.number c.index-alternatives-number.result refl c.loop-number-test.true c.index-alternatives-number.is)
      c.in_ok-met.ensures.ok.members c.in_ok-node-2.ensures c.in_ok-push-2.ensures.items (omega arith) c.loop-number.invariant.each;
  count = search rules;
  made = made_pushed _ c.loop-number.found.items _ _ c.and.ensures.grown c.loop-number.invariant.made c.in_ok-met.ensures.ok.made c.in_ok-push-2.ensures.items;
  ctx_made = made_grown c.and.ensures.grown c.loop-number.invariant.ctx_made;
  alternatives_made = are_made_grown c.and.ensures.grown c.loop-number.invariant.alternatives_made;
  grown = grown_trans c.loop-number.invariant.grown c.and.ensures.grown;
  same_picks = same_picks_trans c.loop-number.invariant.same_picks c.and.ensures.picks;
}

pub returns-clause-each : goal.returns-clause-each
returns-clause-each c = strings_done (instance_of c.args.self.now) c.args.des.now c.args.picks.now c.in-Some.alternatives.now _ c.args.ctx.now c.loop-number.found.items c.loop-number.number
    c.in-Some.ensures c.requires.places (omega arith) c.loop-number.invariant.each

pub returns-clause-count : goal.returns-clause-count
returns-clause-count c = let all = strings_counted c.args.des.now.path c.args.picks.now c.in-Some.alternatives.now _ c.in-Some.ensures c.requires.places in
    let count = c.loop-number.invariant.count in omega (arith, all, count)
