use Rattle.std.proofs.Common.{◌≡◌, ◌↔◌, ℕ, true, Some, length, map, slice_get}
use Rattle.lfg_context.specs.Seen.{Set}
use Rattle.lfg_context.specs.Sets.{Assignment, member, AreMade, IsGrown}
use Rattle.lfg_packed.specs.Assignments.{alternative_at}
use Rattle.lfg_packed.specs.ChoicePoints.{NextAt}
use Rattle.lfg_instant.specs.declared.steps.Step.{Step}
use Rattle.lfg_instant.specs.Junctions.{placed}
use Rattle.lfg_instant.specs.Picked.{HavePickedOf}
use Rattle.lfg_instant.proofs.taken.step_picks.Given as goal

abbrev pub invariant-loop-step : goal.invariant-loop-step
invariant-loop-step l = record {
  made : AreMade l.contexts (λ x. x) l.sets.items;
  grown : IsGrown l.fn.contexts l.contexts;
  picks : HavePickedOf l.contexts l.space;
  len : length l.sets.items ≡ l.step-index;
  each : (n : ℕ) (step : Step) (x : Set) → slice_get l.steps n ≡ Some step → slice_get l.sets.items n ≡ Some x
      → (a : Assignment) → (member x a ≡ true) ↔ (alternative_at l.grammar l.tokens (map placed l.junctions) a (NextAt step.point) ≡ step.number);
}
