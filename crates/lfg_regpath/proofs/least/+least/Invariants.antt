use Rattle.std.proofs.Common.{◌≡◌, ◌+◌, ◌≤◌, min, drop}
use Rattle.lfg_model.specs.PathExpressions.{expressions_of}
use Rattle.lfg_regpath.specs.Least.{least_of_row, least_of_branches}
use Rattle.lfg_regpath.proofs.least.+least.Given as goal

abbrev pub invariant-least_of_row-loop-part : goal.invariant-least_of_row-loop-part
invariant-least_of_row-loop-part l = record {
  few : l.sum ≤ 9;
  same : min 9 (l.sum + least_of_row (expressions_of (drop l.part-index l.parts))) ≡ least_of_row (expressions_of l.parts);
}

abbrev pub invariant-least_of_branches-loop-branch : goal.invariant-least_of_branches-loop-branch
invariant-least_of_branches-loop-branch l = record {
  few : l.found ≤ 9;
  same : min l.found (least_of_branches (expressions_of (drop l.branch-index l.branches))) ≡ least_of_branches (expressions_of l.branches);
}
