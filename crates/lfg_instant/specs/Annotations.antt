-- The literals of an annotation over all its picks, each in the set of the assignments that have it.
use Rattle.std.specs.Prelude.{◌≡◌, ℕ, ◌==◌, Some, List, [], ◌∷◌, ◌++◌, if◌then◌else◌, slice_get, length, map}
use Rattle.lfg_model.specs.Lists.{In}
use Rattle.lfg_model.specs.Places.{PicksFit}
use Rattle.lfg_model.specs.Resolve.{Instance}
use Rattle.lfg_context.specs.Seen.{Set, Known}
use Rattle.lfg_context.specs.Sets.{Assignment, member, AreMade}
use Rattle.lfg_instant.specs.declared.annotation.Instance as held
pub use Rattle.lfg_instant.specs.Holding.{holding}

-- an instance of an annotation
abbrev pub instance_of : held.Instance → Instance
instance_of it = record { up = it.up.now; down = it.down.now; site = it.site.now }

-- Of the sets of a numbered place's alternatives, counted from 0, the one with this number has the
-- assignment, and no other.
pub record IsPick (alternatives : List Set) (a : Assignment) (k : ℕ) : Type 0 where
  pub exact : (i : ℕ) (x : Set) → slice_get alternatives i ≡ Some x → member x a ≡ (k == i)

-- the assignment picks these alternatives, one at each numbered place
abbrev pub ArePicks : List (List Set) → Assignment → List ℕ → Type 0
ArePicks [] a [] = Unit {0}
ArePicks [] a (k ∷ ks) = ⊥
ArePicks (xs ∷ rest) a [] = ⊥
ArePicks (xs ∷ rest) a (k ∷ ks) = IsPick xs a k × ArePicks rest a ks

-- how many alternatives each place has
abbrev pub arities : List (List Set) → List ℕ
arities = map length

-- the sets of all places were made by these contexts
pub record ArePicksMade (k : Known) (picks : List (List Set)) : Type 0 where
  pub each : (xs : List Set) → In xs picks → AreMade k (λ x. x) xs

-- The list new is old and more: at each assignment of the set c behind what holds of old just what
-- `given` has by the assignment's picks at places with these numbers of alternatives, and at the
-- others nothing.
pub record Appends {X : Type 0} (ns : List ℕ) (given : List ℕ → List X) (picks : List (List Set)) (c : Set) (old new : List (X × Set)) : Type 0 where
  pub exact : (a : Assignment) (ps : List ℕ) → ArePicks picks a ps → PicksFit ps ns
      → holding new a ≡ holding old a ++ (if member c a then given ps else [])
