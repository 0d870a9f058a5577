use Rattle.std.proofs.Common.{arith, map}
use Rattle.lfg_model.specs.RightSides.{right_side_of}
use Rattle.lfg_model.specs.TemplateRules.{call_at, side_calls}
use Rattle.lfg_templates.specs.Views.{called_of}
use Rattle.lfg_templates.proofs.Gathering.{gathered, sides_flat}
use Rattle.lfg_templates.proofs.calls.+side.Goals as goal

pub push_sides_calls-returns : goal.push_sides_calls-returns
push_sides_calls-returns t c = gathered (λ s. map (call_at c.args.entry) (side_calls (right_side_of s))) c.args.sides.now c.loop-side.side-index (map called_of c.args.out.now.items) (map called_of c.loop-side.out.items) _ (omega arith) (sides_flat c.args.entry c.args.sides.now) c.loop-side.invariant
