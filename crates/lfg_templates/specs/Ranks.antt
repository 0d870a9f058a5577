-- Ranks of places that fall or rise along the links of a table, so that a place with a rank is on no
-- cycle.
use Rattle.std.specs.Prelude.{ℕ, ◌<◌, List, slice_index_or}
use Rattle.lfg_model.specs.Lists.{In}
use Rattle.lfg_templates.specs.Graphs.{row_at}

-- the rank of a place, which is 0 where it has none
abbrev pub rank_of : List ℕ → ℕ → ℕ
rank_of ranks i = slice_index_or ranks i 0

-- the place has a rank, and a lower one than this
abbrev pub RanksBelow : List ℕ → ℕ → ℕ → Type 0
RanksBelow ranks rank j = (0 < rank_of ranks j) × (rank_of ranks j < rank)

-- what follows a place with a rank has a lower rank
pub record RanksFall (rows : List (List ℕ)) (ranks : List ℕ) : Type 0 where
  pub each : (i j : ℕ) → In j (row_at rows i) → 0 < rank_of ranks i → RanksBelow ranks (rank_of ranks i) j

-- what a place with a rank follows has a lower rank
pub record RanksRise (rows : List (List ℕ)) (ranks : List ℕ) : Type 0 where
  pub each : (i j : ℕ) → In j (row_at rows i) → 0 < rank_of ranks j → RanksBelow ranks (rank_of ranks j) i
