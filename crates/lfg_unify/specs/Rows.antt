-- Tables of rows: which pairs of places hold at an assignment, and how a table grows.
use Rattle.std.specs.Prelude.{◌≡◌, ◌↔◌, ◌⊎◌, ℕ, suc, nat_lt, true, List, [], ◌∷◌, length, slice_index_or, if◌then◌else◌}
use Rattle.lfg_model.specs.Lists.{In}
use Rattle.lfg_context.specs.Seen.{Set, Known}
use Rattle.lfg_context.specs.Sets.{Assignment, member, IsMade}
use Rattle.lfg_unify.specs.Closures.{Row, Ascends}

-- the place stands in the row with a context that has the assignment
pub record Stands (row : Row) (a : Assignment) (j : ℕ) : Type 0 where
  pub set : Set
  pub listed : In (j, set) row
  pub holds : member set a ≡ true

abbrev pub row_of : List Row → ℕ → Row
row_of rows i = slice_index_or rows i []

-- the pair of places holds at the assignment
abbrev pub Has : List Row → Assignment → ℕ → ℕ → Type 0
Has rows a i j = Stands (row_of rows i) a j

-- an entry's context was made by these contexts, and is not empty
pub record IsEntry (k : Known) (entry : ℕ × Set) : Type 0 where
  pub made : IsMade k entry.1
  pub some : (a : Assignment) × (member entry.1 a ≡ true)

pub record IsRow (k : Known) (row : Row) : Type 0 where
  pub each : (entry : ℕ × Set) → In entry row → IsEntry k entry

pub record AreRows (k : Known) (rows : List Row) : Type 0 where
  pub each : (i : ℕ) → IsRow k (row_of rows i)

-- each row has places of the table, in ascending order
pub record AreAscending (rows : List Row) : Type 0 where
  pub each : (i : ℕ) → Ascends (length rows) 0 (row_of rows i)

-- how many entries stand before the place
abbrev pub count_before : Row → ℕ → ℕ
count_before [] j = 0
count_before (r ∷ rs) j = if nat_lt r.0 j then suc (count_before rs j) else 0

-- the new row has the place where the set holds, and what the old row has
pub record Widens (old : Row) (j : ℕ) (z : Set) (new : Row) : Type 0 where
  pub each : (a : Assignment) (y : ℕ) → Stands new a y ↔ (Stands old a y ⊎ ((y ≡ j) × (member z a ≡ true)))

-- the new row has what the other row has where the set holds, and what the old row has
pub record Takes (old : Row) (z : Set) (other new : Row) : Type 0 where
  pub each : (a : Assignment) (y : ℕ) → Stands new a y ↔ (Stands old a y ⊎ ((member z a ≡ true) × Stands other a y))

-- the new row has what the old row has, and what is paired with a place of the given row
pub record Sweeps (rows : List Row) (old given new : Row) : Type 0 where
  pub each : (a : Assignment) (y : ℕ) → Stands new a y ↔ (Stands old a y ⊎ ((j : ℕ) × Stands given a j × Has rows a j y))
