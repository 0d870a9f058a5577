-- The three kinds of rows that one table of spans holds: a category, what was read of its rule, and
-- what is left of it. The law says what they mean.
use Rattle.std.specs.Prelude.{◌≡◌, ◌↔◌, ℕ, Some, List}
use Rattle.lfg_terms.specs.declared.grammar.Rule.{Rule}
use Rattle.lfg_terms.specs.declared.grammar.Grammar.{Grammar}
use Rattle.lfg_terms.specs.declared.tree.TokenForms.{TokenForms}
use Rattle.lfg_model.specs.Terms.{Name}
use Rattle.lfg_model.specs.Derive.{rule_of, CanFollow, CanEnd, edge}
use Rattle.lfg_model.specs.Grounded.{IsEmptyItem, IsItemOf}
use Rattle.lfg_model.specs.Kept.{Derivable, Reaches, Ends, IsEntry, IsFillable}

-- What a row is about: a category; a category's rule, read from its start up to an item; or a
-- category's rule, to be read from behind an item to its end. Item 0 is the start.
pub data Label : Type 0 where
  OfCategory : (cat : Name) → Label
  ReadUpTo : (cat : Name) → (occ : ℕ) → Label
  LeftBehind : (cat : Name) → (occ : ℕ) → Label

-- What stands in a row from a place to a place, by steps that a table can make. A category has a
-- word by one of its entries, or what was read of its rule up to an item that may end it. What was
-- read of a rule begins with nothing, and goes on over an `e` or over a category. What is left of a
-- rule is nothing behind an item that may end it, and has one item more in front.
pub data ChartRow (g : Grammar) (s : List TokenForms) : Label → ℕ → ℕ → Type 0 where
  word : {cat : Name} {i j : ℕ} (k : ℕ) → IsEntry g s (edge cat i j) k → ChartRow g s (OfCategory cat) i j
  read_all : {cat : Name} {q i j : ℕ} (rule : Rule) → rule_of g cat ≡ Some rule → CanEnd rule.graph q → ChartRow g s (ReadUpTo cat q) i j → ChartRow g s (OfCategory cat) i j
  read_none : {cat : Name} {i : ℕ} (rule : Rule) → rule_of g cat ≡ Some rule → ChartRow g s (ReadUpTo cat 0) i i
  read_empty : {cat : Name} {q p i j : ℕ} (rule : Rule) → rule_of g cat ≡ Some rule → CanFollow rule.graph q p → IsEmptyItem rule p
      → ChartRow g s (ReadUpTo cat q) i j → ChartRow g s (ReadUpTo cat p) i j
  read_daughter : {cat below : Name} {q p i j k : ℕ} (rule : Rule) → rule_of g cat ≡ Some rule → CanFollow rule.graph q p → IsItemOf rule p below
      → ChartRow g s (ReadUpTo cat q) i j → ChartRow g s (OfCategory below) j k → ChartRow g s (ReadUpTo cat p) i k
  left_none : {cat : Name} {q j : ℕ} (rule : Rule) → rule_of g cat ≡ Some rule → CanEnd rule.graph q → ChartRow g s (LeftBehind cat q) j j
  left_empty : {cat : Name} {q p i j : ℕ} (rule : Rule) → rule_of g cat ≡ Some rule → CanFollow rule.graph q p → IsEmptyItem rule p
      → ChartRow g s (LeftBehind cat p) i j → ChartRow g s (LeftBehind cat q) i j
  left_daughter : {cat below : Name} {q p i j k : ℕ} (rule : Rule) → rule_of g cat ≡ Some rule → CanFollow rule.graph q p → IsItemOf rule p below
      → ChartRow g s (OfCategory below) i j → ChartRow g s (LeftBehind cat p) j k → ChartRow g s (LeftBehind cat q) i k

-- what it means that something stands in the row from a place to a place
abbrev pub Means : Grammar → List TokenForms → Label → ℕ → ℕ → Type 0
Means g s (OfCategory cat) i j = Derivable g s (edge cat i j)
Means g s (ReadUpTo cat q) i j = (rule : Rule) × (rule_of g cat ≡ Some rule) × Reaches g s rule i q j
Means g s (LeftBehind cat q) i j = (rule : Rule) × (rule_of g cat ≡ Some rule) × Ends g s rule j q i

-- Law: a row has just what it means, where each annotation has picks that fit it.
abbrev pub RowsMean : Type 0
RowsMean = (g : Grammar) (s : List TokenForms) → IsFillable g → (label : Label) (i j : ℕ) → ChartRow g s label i j ↔ Means g s label i j
