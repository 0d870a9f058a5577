use Rattle.std.proofs.Common.{◌∙◌, arith}
use Rattle.lfg_model.specs.Equal.{stated}
use Rattle.lfg_model.proofs.ListLaws.{In-at}
use Rattle.lfg_solve.proofs.Dividing.{division_joined, HoldsGiven-grown, HoldsGiven-more}
use Rattle.lfg_solve.proofs.classes.join_given.Goals as goal

pub loop-a-preserved : goal.loop-a-preserved
loop-a-preserved c = record {
  length = c.join.ensures.length ∙ c.loop-a.invariant.length;
  forced = λ count arcs d. division_joined count c.args.given.now arcs _ _ _ _ (c.loop-a.invariant.forced count arcs d) (stated (In-at c.args.given.now c.loop-a.a-index (0, 0) (omega arith))) c.join.ensures.joins c.join.ensures.length;
  given = HoldsGiven-more _ _ (0, 0) _ (omega arith) (HoldsGiven-grown _ c.loop-a.invariant.given c.join.ensures.joins.grown) c.join.ensures.joins.both;
}
