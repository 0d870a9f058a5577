use Rattle.std.proofs.Common.{◌≡◌, ◌+◌, ℕ, List, sym, refl, ◌∙◌, ap, subst, arith}
use Rattle.lfg_context.proofs.Growing.{grown_trans, grown_refl, same_picks_trans, same_picks_refl}
use Rattle.lfg_unify.specs.Systems.{Arc, HasRounds, AreLinked}
use Rattle.lfg_unify.proofs.SweepLaws.{growth_refl, growth_trans}
use Rattle.lfg_unify.proofs.SettleLaws.{one_round, closed_from}
use Rattle.lfg_unify.proofs.settle.rounds.Goals as goal

pub loop-turn-init : goal.loop-turn-init
loop-turn-init c = record {
  grown = grown_refl _;
  picks = same_picks_refl _;
  len = refl;
  rows = c.requires.rows;
  growth = growth_refl c.args.arcs.now c.args.table.now;
  more = λ s n e r. (let z : n ≡ n + 0 = omega arith in subst (λ (m : ℕ). HasRounds s m c.args.table.now) z r);
}

pub loop-turn-preserved : goal.loop-turn-preserved
loop-turn-preserved c =
    let inv = c.loop-turn.invariant in
    let step = c.in_ok-round.ensures in
    record {
      grown = grown_trans inv.grown step.grown;
      picks = same_picks_trans inv.picks step.picks;
      len = step.len ∙ inv.len;
      rows = step.rows;
      growth = growth_trans c.args.arcs.now c.args.table.now c.loop-turn.table c.round.new.table inv.growth step.growth;
      more = λ s n e r.
          let l : AreLinked s.arcs.items s.arcs.items c.loop-turn.table c.round.new.table = subst (λ (xs : List Arc). AreLinked xs xs c.loop-turn.table c.round.new.table) (sym e) step.linked in
          let z : n + c.loop-turn._turn + 1 ≡ n + (c.loop-turn._turn + 1) = omega arith in
          subst (λ (m : ℕ). HasRounds s m c.round.new.table) z
          (one_round s (n + c.loop-turn._turn) c.loop-turn.table c.round.new.table step.growth.keeps step.joined l (inv.more s n e r));
    }

pub returns-then-not-branch-clause-settled : goal.returns-then-not-branch-clause-settled
returns-then-not-branch-clause-settled c = λ done s e.
    let step = c.in_ok-round.ensures in
    closed_from s c.loop-turn.table c.round.new.table (step.kept c.if-not-branch.true) step.joined
    (subst (λ (xs : List Arc). AreLinked xs xs c.loop-turn.table c.round.new.table) (sym e) step.linked)
