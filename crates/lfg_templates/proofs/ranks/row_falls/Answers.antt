use Rattle.std.proofs.Common.{ℕ, ◌<◌, arith, subst}
use Rattle.lfg_templates.specs.Ranks.{RanksBelow}
use Rattle.lfg_templates.proofs.RankLaws.{row_more}
use Rattle.lfg_templates.proofs.ranks.row_falls.Goals as goal

pub loop-place-preserved : goal.loop-place-preserved
loop-place-preserved c =
    row_more (λ (j : ℕ). RanksBelow c.args.ranks.now c.args.rank j) c.args.row.now c.loop-place.place-index c.loop-place-test.true c.loop-place.invariant
    (subst (λ (r : ℕ). (0 < r) × (r < c.args.rank)) c.rank_of.ensures (c.is_below.ensures c.if-not-is_below.false))
