-- The place of the first element of a list for which something holds.
use Rattle.std.specs.Prelude.{ℕ, ◌<◌, Option, Some, None, List, length, slice_index_or}
use Rattle.lfg_model.specs.Firsts.{First}
use Rattle.lfg_model.specs.TemplateRules.{NoneHas}

-- the element at this place, counted from 0, is the first with P
pub record IsFirstAt {X : Type 0} (P : X → Type 0) (xs : List X) (i : ℕ) : Type 0 where
  pub within : i < length xs
  pub first : (d : X) → First P xs (slice_index_or xs i d)

-- the place of the first element with P, or that there is none
abbrev pub FoundFirst : {X : Type 0} → (X → Type 0) → List X → Option ℕ → Type 0
FoundFirst P xs None = NoneHas P xs
FoundFirst P xs (Some i) = IsFirstAt P xs i
