use Rattle.std.proofs.Common.{drop}
use Rattle.lfg_model.specs.PathExpressions.{expressions_of}
use Rattle.lfg_regpath.proofs.RowLaws.{BranchState}
use Rattle.lfg_regpath.proofs.Turns.{IsReadTo}
use Rattle.lfg_regpath.proofs.strings.+strings.Given as goal

abbrev pub invariant-strings_of_branches-loop-branch : goal.invariant-strings_of_branches-loop-branch
invariant-strings_of_branches-loop-branch l = BranchState (expressions_of l.branches) (expressions_of (drop l.branch-index l.branches)) l.limit l.set.items

abbrev pub invariant-strings_of_row-loop-part : goal.invariant-strings_of_row-loop-part
invariant-strings_of_row-loop-part l = IsReadTo l.parts l.part-index l.spare l.so_far l.fn.limit l.set.items
