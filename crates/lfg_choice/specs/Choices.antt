-- The choices of a packed value, in order.
use Rattle.std.specs.Prelude.{ℕ, ◌≤◌, List, All, slice_get}
use Rattle.std.specs.Option.{option_map, unwrap_or}
use Rattle.lfg_terms.specs.declared.choice.Choice.{Choice}

-- the number of alternatives of the choice c; 0 where there is no such choice
abbrev pub alternatives_of : List Choice → ℕ → ℕ
alternatives_of cs c = unwrap_or (option_map (λ x. x.alternatives) (slice_get cs c)) 0

-- each choice has two alternatives at least
abbrev pub AreReal : List Choice → Type 0
AreReal cs = All (λ c. 2 ≤ c.alternatives) cs
