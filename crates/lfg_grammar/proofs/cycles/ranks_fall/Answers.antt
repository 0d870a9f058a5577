use Rattle.std.proofs.Common.{ℕ, List, subst, sym, arith}
use Rattle.lfg_model.specs.Lists.{In}
use Rattle.lfg_grammar.specs.Cycles.{RanksBelow}
use Rattle.lfg_grammar.proofs.CycleLaws.{ranks_more}
use Rattle.lfg_grammar.proofs.Reaching.{at_item, has_list}
use Rattle.lfg_grammar.proofs.cycles.ranks_fall.Goals.{else-rank-gt0-via-then-rank-gt0+else-not-all_below, else-rank-gt0-via-else-rank-gt0}
use Rattle.lfg_grammar.proofs.cycles.ranks_fall.Goals as goal

pub loop-place-preserved : goal.loop-place-preserved
loop-place-preserved c = ranks_more c.args.next.now c.args.ranks.now c.loop-place.place c.loop-place.invariant (elim c.else-rank-gt0.branch [
  | else-rank-gt0-via-then-rank-gt0+else-not-all_below w ↦ λ j r a.
      let row : In j c.index-next-place.result.items = (at_item c.args.next.now c.loop-place.place j c.index-next-place.result c.loop-place-test.true c.index-next-place.is).0 a in
      let there : In j w.deref.result.now = subst (λ (xs : List ℕ). In j xs) (sym w.deref.ensures.value) row in
      subst (λ (rank : ℕ). RanksBelow c.args.ranks.now rank j) c.rank_of-rank.ensures (w.all_below.ensures w.if-not-all_below.false j there)
  | else-rank-gt0-via-else-rank-gt0 w ↦ λ j r a. absurd (omega (arith, c.rank_of-rank.ensures, w.if-rank-gt0.false, r))
])

pub returns : goal.returns
returns c = λ yes. record { each = λ i j r a. c.loop-place.invariant i j (omega (arith, has_list c.args.next.now i j a)) r a }
