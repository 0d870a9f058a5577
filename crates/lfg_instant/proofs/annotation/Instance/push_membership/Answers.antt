use Rattle.std.proofs.Common.{length, drop, ◌+◌, rules, arith}
use Rattle.std.proofs.lemmas.List.{at_drop_all}
use Rattle.lfg_terms.specs.declared.literal.Literal.TheVariants as literal
use Rattle.lfg_model.specs.Places.{path_places}
use Rattle.lfg_model.specs.Resolve.{node_of}
use Rattle.lfg_context.proofs.Growing.{are_made_grown, grown_trans, same_picks_trans}
use Rattle.lfg_instant.specs.Annotations.{instance_of}
use Rattle.lfg_packed.specs.Sizes.{string_count}
use Rattle.lfg_instant.proofs.AppendLaws.{each_next, each_finished, each_done, drop_next, counted_more, counted_few}
use Rattle.lfg_instant.proofs.MadeLaws.{picks_made_grown, picks_made_before, picks_made_behind}
use Rattle.lfg_instant.proofs.PickLaws.{arities_before, arities_behind}
use Rattle.lfg_instant.proofs.annotation.Instance.push_membership.Goals as goal

pub nodes-requires-clause-places : goal.nodes-requires-clause-places
nodes-requires-clause-places c = arities_before c.args.picks.now c.cut.result.0.now (path_places c.args.item.now.path) (path_places c.args.set.now.path) c.requires.places
    (c.cut.ensures.own (length (path_places c.args.item.now.path)) (counted_few c.path_places.result (length (path_places c.args.item.now.path)) c.path_places.ensures.within c.path_places.ensures.value))

pub nodes-requires-clause-picks_made : goal.nodes-requires-clause-picks_made
nodes-requires-clause-picks_made c = picks_made_before (length (path_places c.args.item.now.path)) c.args.picks.now c.cut.result.0.now
    (c.cut.ensures.own (length (path_places c.args.item.now.path)) (counted_few c.path_places.result (length (path_places c.args.item.now.path)) c.path_places.ensures.within c.path_places.ensures.value)) c.requires.picks_made

pub loop-at-init : goal.loop-at-init
loop-at-init c = record {
  each = λ new w. w;
  count = search rules;
  made = are_made_grown c.nodes.ensures.grown c.requires.literals_made;
  found_made = rw c.deref-at-items.ensures.value c.in_ok-found.ensures.made;
  others_made = picks_made_grown c.nodes.ensures.grown (picks_made_behind (length (path_places c.args.item.now.path)) c.args.picks.now c.cut.result.1.now
      (c.cut.ensures.others (length (path_places c.args.item.now.path)) (counted_few c.path_places.result (length (path_places c.args.item.now.path)) c.path_places.ensures.within c.path_places.ensures.value)) c.requires.picks_made);
  grown = c.nodes.ensures.grown;
  same_picks = c.nodes.ensures.same_picks;
}

pub push_members-requires-clause-places : goal.push_members-requires-clause-places
push_members-requires-clause-places c = arities_behind c.args.picks.now c.cut.result.1.now (path_places c.args.item.now.path) (path_places c.args.set.now.path) c.requires.places
    (c.cut.ensures.others (length (path_places c.args.item.now.path)) (counted_few c.path_places.result (length (path_places c.args.item.now.path)) c.path_places.ensures.within c.path_places.ensures.value))

pub loop-at-preserved : goal.loop-at-preserved
loop-at-preserved c =
    let items = c.deref-at-items.result.now in
    let i = c.loop-at.at-index in
    record {
      each = each_next (path_places c.args.set.now.path) (λ n ps. literal.Member n (node_of (instance_of c.args.self.now) c.args.set.now ps)) c.cut.result.1.now items (drop i items) (drop (i + 1) items) c.at-item.result
          c.args.literals.now.items c.loop-at.literals.items c.push_members.new.literals.items (drop_next items i c.at-item.result (omega arith) c.at-item.is) c.in_ok-push_members.ensures.each c.loop-at.invariant.each;
      count = counted_more (length c.args.literals.now.items) (length c.loop-at.literals.items) (length c.push_members.new.literals.items) i (string_count c.args.set.now.path) c.loop-at.invariant.count c.in_ok-push_members.ensures.count;
      made = c.push_members.ensures.made;
      found_made = are_made_grown c.push_members.ensures.grown c.loop-at.invariant.found_made;
      others_made = picks_made_grown c.push_members.ensures.grown c.loop-at.invariant.others_made;
      grown = grown_trans c.loop-at.invariant.grown c.push_members.ensures.grown;
      same_picks = same_picks_trans c.loop-at.invariant.same_picks c.push_members.ensures.same_picks;
    }

pub returns-clause-each : goal.returns-clause-each
returns-clause-each c =
    let items = c.deref-at-items.result.now in
    let i = c.loop-at.at-index in
    each_done (path_places c.args.item.now.path) (path_places c.args.set.now.path) (λ ps. node_of (instance_of c.args.self.now) c.args.item.now ps) (λ n ps. literal.Member n (node_of (instance_of c.args.self.now) c.args.set.now ps)) c.args.picks.now c.cut.result.0.now c.cut.result.1.now c.args.ctx.now
    c.in_ok-found.found.items items c.args.literals.now.items c.loop-at.literals.items
    (c.cut.ensures.own (length (path_places c.args.item.now.path)) (counted_few c.path_places.result (length (path_places c.args.item.now.path)) c.path_places.ensures.within c.path_places.ensures.value))
    (c.cut.ensures.others (length (path_places c.args.item.now.path)) (counted_few c.path_places.result (length (path_places c.args.item.now.path)) c.path_places.ensures.within c.path_places.ensures.value))
    c.in_ok-found.ensures.each c.deref-at-items.ensures.value
    (each_finished (path_places c.args.set.now.path) (λ n ps. literal.Member n (node_of (instance_of c.args.self.now) c.args.set.now ps)) c.cut.result.1.now items (drop i items) c.args.literals.now.items c.loop-at.literals.items (at_drop_all (λ z. z) items i (omega arith)) c.loop-at.invariant.each)
