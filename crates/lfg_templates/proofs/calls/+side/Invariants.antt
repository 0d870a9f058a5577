use Rattle.std.proofs.Common.{◌≡◌, ◌++◌, map, take}
use Rattle.std.specs.List.{flat_map}
use Rattle.lfg_model.specs.RightSides.{right_side_of}
use Rattle.lfg_model.specs.TemplateRules.{call_at, side_calls}
use Rattle.lfg_templates.specs.Views.{called_of}
use Rattle.lfg_templates.proofs.calls.+side.Given as goal

abbrev pub invariant-push_sides_calls-loop-side : goal.invariant-push_sides_calls-loop-side
invariant-push_sides_calls-loop-side l = map called_of l.out.items ≡ map called_of l.initial.out.items ++ flat_map (λ s. map (call_at l.entry) (side_calls (right_side_of s))) (take l.side-index l.sides)
