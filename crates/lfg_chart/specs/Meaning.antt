-- What the rows of a filled table mean.
use Rattle.std.specs.Prelude.{◌≡◌, ◌↔◌, ℕ, ◌+◌, ◌<◌, Some, List, length, slice_get}
use Rattle.lfg_terms.specs.declared.grammar.Grammar.{Grammar}
use Rattle.lfg_terms.specs.declared.tree.TokenForms.{TokenForms}
use Rattle.lfg_model.specs.ChartRows.{Label, OfCategory, ReadUpTo, LeftBehind, ChartRow}
use Rattle.lfg_model.specs.Terms.{Name}
use Rattle.lfg_chart.specs.declared.table.Row.{Row}
use Rattle.lfg_chart.specs.declared.table.Row.TheVariants.{Whole, Read, Left}
use Rattle.lfg_chart.specs.declared.table.Table.{Table}
use Rattle.lfg_chart.specs.Tables.{Holds}

-- the row is about this
pub data IsAbout (cats : List Name) : Row → Label → Type 0 where
  a_category : {number : ℕ} {cat : Name} → slice_get cats number ≡ Some cat → IsAbout cats (Whole number) (OfCategory cat)
  a_front : {number item : ℕ} {cat : Name} → slice_get cats number ≡ Some cat → IsAbout cats (Read number item) (ReadUpTo cat item)
  a_rest : {number item : ℕ} {cat : Name} → slice_get cats number ≡ Some cat → IsAbout cats (Left number item) (LeftBehind cat item)

-- The table has the places of the sentence. It holds for each row just what the row of a chart has,
-- and nothing for another category than the grammar's.
pub record IsTableOf (g : Grammar) (s : List TokenForms) (table : Table) : Type 0 where
  pub size : table.size ≡ length s + 1
  pub exact : (row : Row) (label : Label) → IsAbout g.cats row label → (i j : ℕ) → j < table.size → Holds table row i j ↔ ChartRow g s label i j
  pub bounded : (number i j : ℕ) → Holds table (Whole number) i j → number < length g.cats
