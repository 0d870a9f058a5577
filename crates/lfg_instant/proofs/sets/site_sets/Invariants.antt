use Rattle.std.proofs.Common.{◌≡◌, ℕ, Some, List, length, map, take, slice_get}
use Rattle.lfg_terms.specs.declared.literal.Site.{Site}
use Rattle.lfg_context.specs.Seen.{Set}
use Rattle.lfg_context.specs.Sets.{Assignment, IsGrown}
use Rattle.lfg_packed.specs.Assignments.{alternative_at}
use Rattle.lfg_packed.specs.ChoicePoints.{BranchAt}
use Rattle.lfg_instant.specs.Annotations.{IsPick, ArePicksMade}
use Rattle.lfg_instant.specs.Junctions.{placed}
use Rattle.lfg_instant.specs.Sites.{site_key}
use Rattle.lfg_instant.specs.Picked.{HavePickedOf}
use Rattle.lfg_instant.proofs.sets.site_sets.Given as goal

abbrev pub invariant-loop-place : goal.invariant-loop-place
invariant-loop-place l = record {
  made : ArePicksMade l.contexts l.sets.items;
  grown : IsGrown l.fn.contexts l.contexts;
  picks : HavePickedOf l.contexts l.space;
  numbers : map length l.sets.items ≡ take l.place l.numbers;
  each : (at : Site) → l.key ≡ site_key l.grammar l.tokens at → (a : Assignment) (j : ℕ) (xs : List Set) → slice_get l.sets.items j ≡ Some xs
      → IsPick xs a (alternative_at l.grammar l.tokens (map placed l.junctions) a (BranchAt at j));
}
