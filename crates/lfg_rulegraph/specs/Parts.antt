-- Parts of a right side, as the program has them, and their tables.
use Rattle.std.specs.Prelude.{◌≡◌, ◌↔◌, ◌⊎◌, ℕ, ◌+◌, ◌≤◌, List, ◌++◌}
use Rattle.lfg_model.specs.RightSides.{RightSides}
use Rattle.lfg_model.specs.Sequences.{Joins}
use Rattle.lfg_model.specs.Spelling.{SpellsBranch, SpellsRow, items_count}
use Rattle.lfg_rulegraph.specs.declared.part.Link.{Link}
use Rattle.lfg_rulegraph.specs.declared.part.Part.{Part}
use Rattle.lfg_rulegraph.specs.Tables.{IsTable, IsWithin, Reads, Table, choice_of, crossing, row_of}

-- the table of a part with these links between its items
abbrev pub table_of : Part → List Link → Table
table_of part links = record { empty = part.empty; first = part.first.items; last = part.last.items; links = links }

-- whatever the links of the two parts are, the part has the table of the one and the other behind it
abbrev pub IsRowOf : Part → Part → Part → Type 0
IsRowOf front back part =
    (a b : List Link) → table_of part ((a ++ b) ++ crossing front.last.items back.first.items) ≡ row_of (table_of front a) (table_of back b)

-- and so for the one or the other
abbrev pub IsChoiceOf : Part → Part → Part → Type 0
IsChoiceOf one other part = (a b : List Link) → table_of part (a ++ b) ≡ choice_of (table_of one a) (table_of other b)

-- The part reads the rows with P, which have the items behind the first `from` and among the first
-- `to`, and its links have been added to the links.
pub record Adds (P : List ℕ → Type 0) (from to : ℕ) (part : Part) (old new : List Link) : Type 0 where
  pub added : List Link
  pub is : new ≡ old ++ added
  pub end : part.end ≡ to
  pub table : IsTable P from to (table_of part added)

-- a part for the first of some parts of a row, where `rest` are the others
pub record RowSoFar (parts : RightSides) (before : ℕ) (rest : RightSides) (part : Part) (old new : List Link) : Type 0 where
  pub added : List Link
  pub is : new ≡ old ++ added
  pub behind : before ≤ part.end
  pub count : part.end + items_count rest ≡ before + items_count parts
  pub within : IsWithin before part.end (table_of part added)
  pub reads : (w : List ℕ) → Joins (Reads (table_of part added)) (SpellsRow part.end rest) w ↔ SpellsRow before parts w

-- a part for one of the first branches, where `rest` are the others
pub record ChoiceSoFar (branches : RightSides) (before : ℕ) (rest : RightSides) (part : Part) (old new : List Link) : Type 0 where
  pub added : List Link
  pub is : new ≡ old ++ added
  pub behind : before ≤ part.end
  pub count : part.end + items_count rest ≡ before + items_count branches
  pub within : IsWithin before part.end (table_of part added)
  pub reads : (w : List ℕ) → (Reads (table_of part added) w ⊎ SpellsBranch part.end rest w) ↔ SpellsBranch before branches w
