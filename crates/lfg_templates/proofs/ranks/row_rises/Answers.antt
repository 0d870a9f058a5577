use Rattle.std.proofs.Common.{ℕ, ◌<◌, arith, subst}
use Rattle.lfg_templates.specs.Ranks.{rank_of}
use Rattle.lfg_templates.proofs.RankLaws.{row_more}
use Rattle.lfg_templates.proofs.ranks.row_rises.Goals as goal

pub loop-place-preserved : goal.loop-place-preserved
loop-place-preserved c =
    row_more (λ (j : ℕ). 0 < rank_of c.args.ranks.now j → (0 < c.args.rank) × (c.args.rank < rank_of c.args.ranks.now j)) c.args.row.now c.loop-place.place-index c.loop-place-test.true c.loop-place.invariant
    (subst (λ (r : ℕ). 0 < r → (0 < c.args.rank) × (c.args.rank < r)) c.rank_of.ensures (c.rises_to.ensures c.if-not-rises_to.false))
