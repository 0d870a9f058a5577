-- Spots of a draft: the entry and the name that a fault tells, and the first of them in written
-- order.
use Rattle.std.specs.Prelude.{◌≡◌, ℕ, nat_lt, cond, Option, Some, None, List}
use Rattle.std.specs.Option.{option_map}
use Rattle.lfg_model.specs.Terms.{Name}
use Rattle.lfg_model.specs.TemplateRules.{FirstWritten, NoneHas}

-- an entry, and a name in it
pub record Spot : Type 0 where
  pub entry : ℕ
  pub name : Name

-- the first with P in written order, or none if nothing has P
abbrev pub Best : {X : Type 0} → (X → ℕ) → (X → Type 0) → List X → Option X → Type 0
Best entry P xs None = NoneHas P xs
Best entry P xs (Some x) = FirstWritten entry P xs x

-- a thing seen as its entry and its name
abbrev pub spot_by : {X : Type 0} → (X → ℕ) → (X → Name) → X → Spot
spot_by entry name x = record { entry = entry x; name = name x }

-- the spot is that of the first with P in written order, or there is none and nothing has P
pub record Finds {X : Type 0} (entry : X → ℕ) (name : X → Name) (P : X → Type 0) (xs : List X) (seen : Option Spot) : Type 0 where
  pub first : Option X
  pub best : Best entry P xs first
  pub is : seen ≡ option_map (spot_by entry name) first

-- of two spots, of which the one comes first in its list, the one of the lesser entry
abbrev pub earlier_of : Option Spot → Option Spot → Option Spot
earlier_of None b = b
earlier_of (Some x) None = Some x
earlier_of (Some x) (Some y) = cond (nat_lt y.entry x.entry) (Some y) (Some x)
