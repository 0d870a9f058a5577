use Rattle.std.proofs.Common.{◌≡◌, ◌+◌, ◌*◌, ℕ, List, sym, refl, ◌∙◌, ap, subst, arith}
use Rattle.lfg_context.proofs.Growing.{grown_trans, grown_refl, same_picks_trans, same_picks_refl}
use Rattle.lfg_unify.specs.Systems.{Arc, HasRounds}
use Rattle.lfg_unify.proofs.SweepLaws.{growth_refl, growth_trans}
use Rattle.lfg_unify.proofs.SettleLaws.{more_rounds, rounds_kept, closed_equal, rounds_equal}
use Rattle.lfg_unify.proofs.settle.settle.Goals as goal

pub loop-turn-init : goal.loop-turn-init
loop-turn-init c = record {
  grown = grown_refl _;
  picks = same_picks_refl _;
  len = refl;
  rows = c.requires.rows;
  growth = growth_refl c.args.arcs.now c.args.table.now;
  more = λ s e r. (let z : 0 ≡ 0 * c.args.count = omega arith in subst (λ (m : ℕ). HasRounds s m c.args.table.now) z r);
}

pub loop-turn-preserved : goal.loop-turn-preserved
loop-turn-preserved c =
    let inv = c.loop-turn.invariant in
    let step = c.in_ok-rounds.ensures in
    record {
      grown = grown_trans inv.grown step.grown;
      picks = same_picks_trans inv.picks step.picks;
      len = step.len ∙ inv.len;
      rows = step.rows;
      growth = growth_trans c.args.arcs.now c.args.table.now c.loop-turn.table c.rounds.new.table inv.growth step.growth;
      more = λ s e r. more_rounds s c.loop-turn._turn c.args.count c.rounds.new.table (step.more c.if-branch.false s (c.loop-turn._turn * c.args.count) e (inv.more s e r));
    }

pub returns-then-branch-clause-equal : goal.returns-then-branch-clause-equal
returns-then-branch-clause-equal c = λ s places e len sys r.
    let inv = c.loop-turn.invariant in
    let step = c.in_ok-rounds.ensures in
    let g = growth_trans c.args.arcs.now c.args.table.now c.loop-turn.table c.rounds.new.table inv.growth step.growth in
    closed_equal s c.rounds.new.table (rounds_kept s 0 c.args.table.now c.rounds.new.table g.keeps r) (step.settled c.if-branch.true s e)

pub returns-clause-equal : goal.returns-clause-equal
returns-clause-equal c = λ s places e len sys r.
    let inv = c.loop-turn.invariant in
    let z : c.loop-turn._turn ≡ c.args.count = omega arith in
    rounds_equal s places c.args.count c.loop-turn.table sys len (subst (λ (m : ℕ). HasRounds s (m * c.args.count) c.loop-turn.table) z (inv.more s e r))
