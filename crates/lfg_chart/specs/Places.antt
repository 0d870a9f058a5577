-- Sets of places.
use Rattle.std.specs.Prelude.{◌≡◌, ℕ}
use Rattle.std.specs.Int.{bit_at}
use Rattle.lfg_chart.specs.declared.places.Places.{Places}

-- the place is in the set
unfoldable pub Has : Places → ℕ → Type 0
Has ps k = bit_at ps.bits k ≡ 1
