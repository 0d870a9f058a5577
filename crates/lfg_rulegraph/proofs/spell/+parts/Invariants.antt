use Rattle.std.proofs.Common.{drop}
use Rattle.lfg_model.specs.RightSides.{right_sides_of}
use Rattle.lfg_rulegraph.specs.Parts.{RowSoFar, ChoiceSoFar}
use Rattle.lfg_rulegraph.proofs.spell.+parts.Given as goal

abbrev pub invariant-row_part-loop-part : goal.invariant-row_part-loop-part
invariant-row_part-loop-part l = RowSoFar (right_sides_of l.parts) l.before (right_sides_of (drop l.part-index l.parts)) l.row l.initial.links.items l.links.items

abbrev pub invariant-choice_part-loop-branch : goal.invariant-choice_part-loop-branch
invariant-choice_part-loop-branch l = ChoiceSoFar (right_sides_of l.branches) l.before (right_sides_of (drop l.branch-index l.branches)) l.choice l.initial.links.items l.links.items
