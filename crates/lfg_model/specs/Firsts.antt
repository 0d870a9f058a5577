-- The first of a list for which something holds.
use Rattle.std.specs.Prelude.{List, ◌∷◌}

-- x is the first of the list with P
pub data First {X : Type 0} (P : X → Type 0) : List X → X → Type 0 where
  first : {x : X} {xs : List X} → P x → First P (x ∷ xs) x
  behind : {x y : X} {xs : List X} → (P y → ⊥) → First P xs x → First P (y ∷ xs) x
