-- Sets of assignments as lists of cubes: the meaning of a diagram, and its one form.
use Rattle.std.specs.Prelude.{◌≡◌, ℕ, zero, suc, ◌+◌, ◌-◌, ◌≤◌, Bool, true, false, ◌&&◌, ◌||◌, ◌==◌, ◌⊎◌, List, [], ◌∷◌, ◌++◌, length, min, slice_index_or, if◌then◌else◌}

-- One alternative of one choice, with the number of alternatives that the choice has.
pub record Pin : Type 0 where
  pub choice : ℕ
  pub arity : ℕ
  pub alternative : ℕ

-- The alternative that an assignment takes of a choice: the last one where it names none that is there
abbrev pub taken : (ℕ → ℕ) → ℕ → ℕ → ℕ
taken a c n = min (a c) (n - 1)

-- the pin's alternative is the one that the assignment takes
abbrev pub pin_holds : (ℕ → ℕ) → Pin → Bool
pin_holds a p = taken a p.choice p.arity == p.alternative

-- an assignment with another alternative at one choice
abbrev pub set_at : (ℕ → ℕ) → ℕ → ℕ → ℕ → ℕ
set_at a c k d = if (d == c) then k else a d

-- each pin of a cube holds
abbrev pub cube_holds : (ℕ → ℕ) → List Pin → Bool
cube_holds a [] = true
cube_holds a (p ∷ ps) = pin_holds a p && cube_holds a ps

-- the assignment is in some cube
abbrev pub in_cubes : List (List Pin) → (ℕ → ℕ) → Bool
in_cubes [] a = false
in_cubes (q ∷ qs) a = cube_holds a q || in_cubes qs a

-- the cubes with one more pin in front
abbrev pub pinned : Pin → List (List Pin) → List (List Pin)
pinned p [] = []
pinned p (q ∷ qs) = (p ∷ q) ∷ pinned p qs

-- the children of a choice c of n alternatives, from the alternative k on, as one list of cubes
abbrev pub glued : ℕ → ℕ → ℕ → List (List (List Pin)) → List (List Pin)
glued c n k [] = []
glued c n k (x ∷ xs) = pinned (record { choice = c; arity = n; alternative = k }) x ++ glued c n (k + 1) xs

abbrev pub child_of : List (List (List Pin)) → ℕ → List (List Pin)
child_of ks i = slice_index_or ks i []

abbrev pub AllOf : (List (List Pin) → Type 0) → List (List (List Pin)) → Type 0
AllOf P [] = Unit {0}
AllOf P (x ∷ xs) = P x × AllOf P xs

-- a test of the choice n: one child for each alternative, not all equal
abbrev pub IsTest : (ℕ → ℕ) → (List (List Pin) → Type 0) → ℕ → List (List Pin) → List (List (List Pin)) → Type 0
IsTest ar P n x ks = (x ≡ glued n (ar n) 0 ks) × (length ks ≡ ar n) × (2 ≤ ar n) × AllOf P ks × ((z : List (List Pin)) → AllOf (λ k. k ≡ z) ks → ⊥)

-- the cubes in the one form that a set of the choices from n on, below n + d, has
abbrev pub IsProper : (ℕ → ℕ) → ℕ → ℕ → List (List Pin) → Type 0
IsProper ar zero n x = (x ≡ []) ⊎ (x ≡ [] ∷ [])
IsProper ar (suc d) n x = IsProper ar d (n + 1) x ⊎ ((ks : List (List (List Pin))) × IsTest ar (IsProper ar d (n + 1)) n x ks)
