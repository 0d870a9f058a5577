use Rattle.std.proofs.Common.{◌≡◌, ◌==◌, ℕ, Some, length, map, slice_get}
use Rattle.lfg_terms.specs.declared.literal.Site.{Site}
use Rattle.lfg_context.specs.Seen.{Set}
use Rattle.lfg_context.specs.Sets.{Assignment, member, AreMade, IsGrown}
use Rattle.lfg_packed.specs.Assignments.{alternative_at}
use Rattle.lfg_packed.specs.ChoicePoints.{BranchAt}
use Rattle.lfg_instant.specs.Junctions.{placed}
use Rattle.lfg_instant.specs.Sites.{site_key}
use Rattle.lfg_instant.specs.Picked.{HavePickedOf}
use Rattle.lfg_instant.proofs.sets.place_sets.Given as goal

abbrev pub invariant-loop-number : goal.invariant-loop-number
invariant-loop-number l = record {
  made : AreMade l.contexts (λ x. x) l.sets.items;
  grown : IsGrown l.fn.contexts l.contexts;
  picks : HavePickedOf l.contexts l.space;
  len : length l.sets.items ≡ l.number;
  each : (at : Site) → l.key ≡ site_key l.grammar l.tokens at → (a : Assignment) (i : ℕ) (x : Set) → slice_get l.sets.items i ≡ Some x
      → member x a ≡ (alternative_at l.grammar l.tokens (map placed l.junctions) a (BranchAt at l.place) == i);
}
