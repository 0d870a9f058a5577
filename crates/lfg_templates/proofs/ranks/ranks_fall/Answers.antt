use Rattle.std.proofs.Common.{ℕ, ◌<◌, List, arith, subst, sym}
use Rattle.lfg_model.specs.Lists.{In}
use Rattle.lfg_templates.specs.Ranks.{RanksBelow, rank_of}
use Rattle.lfg_templates.proofs.RankLaws.{rows_more, has_row}
use Rattle.lfg_templates.proofs.ranks.ranks_fall.Goals as goal

pub loop-place-preserved : goal.loop-place-preserved
loop-place-preserved c =
    rows_more (λ (i j : ℕ). 0 < rank_of c.args.ranks.now i → RanksBelow c.args.ranks.now (rank_of c.args.ranks.now i) j) c.args.rows.now c.loop-place.place c.index-rows-place.result c.loop-place-test.true c.index-rows-place.is c.loop-place.invariant
    (λ j i. subst (λ (rank : ℕ). 0 < rank → RanksBelow c.args.ranks.now rank j) c.rank_of.ensures (c.row_falls.ensures c.if-not-row_falls.false j (subst (λ (xs : List ℕ). In j xs) (sym c.deref.ensures.value) i)))

pub returns : goal.returns
returns c = λ yes. record { each = λ i j h l. c.loop-place.invariant i j (let k = has_row c.args.rows.now i j h in omega arith) h l }
