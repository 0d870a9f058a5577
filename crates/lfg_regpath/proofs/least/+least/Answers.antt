use Rattle.std.proofs.Common.{arith}
use Rattle.lfg_model.specs.PathExpressions.{expression_of, expressions_of}
use Rattle.lfg_regpath.proofs.LeastLaws.{least_few, row_few, branches_few}
use Rattle.lfg_regpath.proofs.least.+least.Goals as goal

pub least_of_branches-loop-branch-init : goal.least_of_branches-loop-branch-init
least_of_branches-loop-branch-init t c = record {
  few = omega arith;
  same = omega (arith, branches_few (expressions_of c.args.branches.now));
}

pub least_of_row-loop-part-init : goal.least_of_row-loop-part-init
least_of_row-loop-part-init t c = record {
  few = omega arith;
  same = omega (arith, row_few (expressions_of c.args.parts.now));
}

pub least_of_row-overflow_add-sum : goal.least_of_row-overflow_add-sum
least_of_row-overflow_add-sum t c = omega (arith, c.least.ensures, c.loop-part.invariant.few, least_few (expression_of c.part-item.result))
