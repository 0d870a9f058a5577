-- What a set of assignments means, said by a fact about each assignment.
use Rattle.std.specs.Prelude.{◌≡◌, true, false, ◌↔◌, List}
use Rattle.lfg_model.specs.Lists.{In}
use Rattle.lfg_context.specs.Seen.{Set}
use Rattle.lfg_context.specs.Sets.{Assignment, member}

-- the members of the set are the assignments at which P is true
pub record Tells (x : Set) (P : Assignment → Type 0) : Type 0 where
  pub each : (a : Assignment) → (member x a ≡ true) ↔ P a

-- the members of the set are the assignments at which P fails
pub record Excludes (x : Set) (P : Assignment → Type 0) : Type 0 where
  pub each : (a : Assignment) → (member x a ≡ false) ↔ P a

-- P is true, at the assignment, of some element of the list
pub record InSome {X : Type 0} (xs : List X) (P : X → Assignment → Type 0) (a : Assignment) : Type 0 where
  pub item : X
  pub listed : In item xs
  pub holds : P item a

-- P is true, at the assignment, of each element of the list
pub record OfAll {X : Type 0} (xs : List X) (P : X → Assignment → Type 0) (a : Assignment) : Type 0 where
  pub each : (x : X) → In x xs → P x a
