use Rattle.std.proofs.Common.{map, take}
use Rattle.lfg_model.specs.RightSides.{right_sides_of}
use Rattle.lfg_model.specs.DraftForms.{template_form}
use Rattle.lfg_model.specs.Templates.{SidesBecome}
use Rattle.lfg_templates.proofs.sides.+side.Given as goal

abbrev pub invariant-expand_sides-loop-side : goal.invariant-expand_sides-loop-side
invariant-expand_sides-loop-side l = SidesBecome (map template_form l.templates) (right_sides_of (take l.side-index l.sides)) (right_sides_of l.out.items)
