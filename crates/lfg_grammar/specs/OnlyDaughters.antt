-- The categories that a rule can have as its only daughter, found from both ends of its graph.
use Rattle.std.specs.Prelude.{ℕ, suc, List, [], ◌∷◌, ◌++◌, map}
use Rattle.lfg_terms.specs.declared.grammar.Rule.{Rule}
use Rattle.lfg_model.specs.Derive.{CanEnd, Walks}
use Rattle.lfg_model.specs.Grounded.{IsItemOf, HasOnlyCategory, EmptyStep}
use Rattle.lfg_model.specs.Terms.{Name}
use Rattle.lfg_grammar.specs.declared.reach.Link.{Link}
use Rattle.lfg_grammar.specs.Reach.{link}

-- the graph of the rule walks a row in which this is the only category
abbrev pub IsOnlyDaughter : Rule → Name → Type 0
IsOnlyDaughter rule cat = (w : List ℕ) × Walks rule.graph w × HasOnlyCategory rule w cat

-- the item is reached from the start of the rule, which is 0, over `e` items alone
pub data FromStart (rule : Rule) : ℕ → Type 0 where
  at_start : FromStart rule 0
  go_over : {q p : ℕ} → FromStart rule q → EmptyStep rule p q → FromStart rule p

-- behind the item an end is reached over `e` items alone
pub data ToEnd (rule : Rule) : ℕ → Type 0 where
  at_end : {q : ℕ} → CanEnd rule.graph q → ToEnd rule q
  come_over : {q p : ℕ} → EmptyStep rule p q → ToEnd rule p → ToEnd rule q

-- the link leads to an item of this category, and all that comes before and behind can be `e`
pub record LinksOnly (rule : Rule) (l : Link) (cat : Name) : Type 0 where
  pub before : FromStart rule l.from
  pub behind : ToEnd rule l.to
  pub item : IsItemOf rule l.to cat

-- the links from a number to each of the first numbers, from the next number to each of the second
-- ones, and so on
abbrev pub links_from : ℕ → List (List ℕ) → List Link
links_from k [] = []
links_from k (ps ∷ rest) = map (link k) ps ++ links_from (suc k) rest
