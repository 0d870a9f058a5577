-- What keeps the derivations of a sentence finite, and the laws that follow for their edges.
use Rattle.std.specs.Prelude.{◌≡◌, ℕ, ◌<◌, ◌⊎◌, Some, None, List, [], ◌∷◌}
use Rattle.lfg_terms.specs.declared.node.Edge.{Edge}
use Rattle.lfg_terms.specs.declared.grammar.Item.{Item}
use Rattle.lfg_terms.specs.declared.grammar.Rule.{Rule}
use Rattle.lfg_terms.specs.declared.grammar.Grammar.{Grammar}
use Rattle.lfg_terms.specs.declared.tree.TokenForms.{TokenForms}
use Rattle.lfg_model.specs.Lists.{In, Once}
use Rattle.lfg_model.specs.Terms.{Name, Tree}
use Rattle.lfg_model.specs.Derive.{rule_of, item_at, CanFollow, Walks, Derives}
use Rattle.lfg_model.specs.Brackets.{edges}

-- the rule's item with this number is `e`
abbrev pub IsEmptyItem : Rule → ℕ → Type 0
IsEmptyItem rule occ = (item : Item) × (item_at rule.items occ ≡ Some item) × (item.cat ≡ None)

-- the rule's item with this number has this category
abbrev pub IsItemOf : Rule → ℕ → Name → Type 0
IsItemOf rule occ cat = (item : Item) × (item_at rule.items occ ≡ Some item) × (item.cat ≡ Some cat)

-- each item of the row is `e`
abbrev pub AreEmptyItems : Rule → List ℕ → Type 0
AreEmptyItems rule [] = Unit {0}
AreEmptyItems rule (occ ∷ rest) = IsEmptyItem rule occ × AreEmptyItems rule rest

-- one item of the row has this category, and the others are `e`
abbrev pub HasOnlyCategory : Rule → List ℕ → Name → Type 0
HasOnlyCategory rule [] cat = ⊥
HasOnlyCategory rule (occ ∷ rest) cat = (IsEmptyItem rule occ × HasOnlyCategory rule rest cat) ⊎ (IsItemOf rule occ cat × AreEmptyItems rule rest)

-- A category can be the only daughter of another: the graph of that one's rule walks a row in which
-- it is the only category.
abbrev pub Unary : Grammar → Name → Name → Type 0
Unary g below above = (rule : Rule) × (rule_of g above ≡ Some rule) × ((w : List ℕ) × Walks rule.graph w × HasOnlyCategory rule w below)

-- item p is `e` and may follow item q; q = 0 is the start
abbrev pub EmptyStep : Rule → ℕ → ℕ → Type 0
EmptyStep rule p q = CanFollow rule.graph q p × IsEmptyItem rule p

-- a relation, one or more times in a row
pub data Chain {X : Type 0} (R : X → X → Type 0) : X → X → Type 0 where
  link : {y x : X} → R y x → Chain R y x
  links : {z y x : X} → R y x → Chain R z y → Chain R z x

-- No category reaches itself by walks with one category item. In no rule an item comes after itself
-- by `e` items alone. Each walk of a rule's graph has a category item.
pub record IsGrounded (g : Grammar) : Type 0 where
  pub unary : (cat : Name) → ¬ Chain (Unary g) cat cat
  pub empties : (cat : Name) (rule : Rule) (occ : ℕ) → rule_of g cat ≡ Some rule → ¬ Chain (EmptyStep rule) occ occ
  pub filled : (cat : Name) (rule : Rule) (w : List ℕ) → rule_of g cat ≡ Some rule → Walks rule.graph w → ¬ AreEmptyItems rule w

-- Law: then no derivation has an edge twice.
abbrev pub NoEdgeTwice : Type 0
NoEdgeTwice = (g : Grammar) (s : List TokenForms) → IsGrounded g → (d : Tree) (e : Edge) → Derives g s d e → Once (edges d e.from)

-- Law: and each edge of a derivation begins before its end.
abbrev pub EdgesCoverTokens : Type 0
EdgesCoverTokens = (g : Grammar) (s : List TokenForms) → IsGrounded g → (d : Tree) (e : Edge) → Derives g s d e → (x : Edge) → In x (edges d e.from) → x.from < x.to
