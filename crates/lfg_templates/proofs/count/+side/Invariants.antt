use Rattle.std.proofs.Common.{◌≡◌, map, take}
use Rattle.lfg_model.specs.RightSides.{right_side_of}
use Rattle.lfg_model.specs.DraftForms.{template_form}
use Rattle.lfg_templates.specs.Counts.{side_count, call_count, capped, summed}
use Rattle.lfg_templates.proofs.count.+side.Given as goal

abbrev pub invariant-count_sides-loop-side : goal.invariant-count_sides-loop-side
invariant-count_sides-loop-side l = l.sum ≡ capped (summed (λ s. side_count (call_count (map template_form l.templates) l.depth) (right_side_of s)) (take l.side-index l.sides))
