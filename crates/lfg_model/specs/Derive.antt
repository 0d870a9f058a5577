-- Derivations of a sentence.
use Rattle.std.specs.Prelude.{◌≡◌, ℕ, zero, suc, ◌+◌, ◌≤◌, true, Option, Some, None, List, [], ◌∷◌, length, slice_get, find}
use Rattle.lfg_terms.specs.declared.node.Edge.{Edge}
use Rattle.lfg_terms.specs.declared.grammar.Item.{Item}
use Rattle.lfg_terms.specs.declared.grammar.Graph.{Graph}
use Rattle.lfg_terms.specs.declared.grammar.Rule.{Rule}
use Rattle.lfg_terms.specs.declared.grammar.Lex.{Lex}
use Rattle.lfg_terms.specs.declared.grammar.Grammar.{Grammar}
use Rattle.lfg_terms.specs.declared.tree.TokenForms.{TokenForms}
use Rattle.lfg_model.specs.Lists.{In}
use Rattle.lfg_model.specs.Terms.{Name, same_name, annotation_of, Tree, leaf, inner, Parts, no_part, empty, daughter}
use Rattle.lfg_model.specs.Places.{places, PicksFit}

-- the rule of a category: the first that heads it
abbrev pub rule_of : Grammar → Name → Option Rule
rule_of g cat = find (λ r. same_name r.cat cat) g.rules

-- an item of a rule by its number, counted from 1
abbrev pub item_at : List Item → ℕ → Option Item
item_at items zero = None
item_at items (suc k) = slice_get items k

-- item p may follow item q in a graph; q = 0 is the start
abbrev pub CanFollow : Graph → ℕ → ℕ → Type 0
CanFollow graph zero p = In p graph.first
CanFollow graph (suc k) p = (ps : List ℕ) × (slice_get graph.next k ≡ Some ps) × In p ps

-- a row of items may end behind item q; the start is no end
abbrev pub CanEnd : Graph → ℕ → Type 0
CanEnd graph zero = ⊥
CanEnd graph (suc k) = slice_get graph.last k ≡ Some true

-- the items may follow q, one behind the other, to an end
abbrev pub Runs : Graph → ℕ → List ℕ → Type 0
Runs graph q [] = CanEnd graph q
Runs graph q (p ∷ rest) = CanFollow graph q p × Runs graph p rest

-- The graph walks a row of items: from one that may begin, over items that may follow each other, to
-- one that may end. No row is empty.
abbrev pub Walks : Graph → List ℕ → Type 0
Walks graph w = Runs graph 0 w

-- the numbers of the items that the parts take, in order
abbrev pub occurrences : Parts → List ℕ
occurrences no_part = []
occurrences (empty occ picks rest) = occ ∷ occurrences rest
occurrences (daughter occ picks below rest) = occ ∷ occurrences rest

-- the edge of a category from a place to a place
abbrev pub edge : Name → ℕ → ℕ → Edge
edge cat from to = record { cat = cat; from = from; to = to }

-- The token at a place has a form with this lexicon entry, which has the category, and the picks
-- fit the entry's annotation.
pub record IsWord (g : Grammar) (s : List TokenForms) (cat : Name) (entry : ℕ) (picks : List ℕ) (at : ℕ) : Type 0 where
  pub lex : Lex
  pub listed : slice_get g.lexicon entry ≡ Some lex
  pub category : lex.cat ≡ cat
  pub token : TokenForms
  pub read : slice_get s at ≡ Some token
  pub offered : In lex.form token.forms
  pub fits : PicksFit picks (places (annotation_of lex.schemata))

-- The rule's item with this number has this category, or is `e` for None, and the picks fit its
-- annotation.
pub record IsItem (rule : Rule) (occ : ℕ) (cat : Option Name) (picks : List ℕ) : Type 0 where
  pub item : Item
  pub listed : item_at rule.items occ ≡ Some item
  pub category : item.cat ≡ cat
  pub fits : PicksFit picks (places (annotation_of item.schemata))

-- The tree derives the edge (Kaplan and Bresnan 1982, with rules whose right sides are graphs of
-- items): a word covers one token, and the parts of a rule cover the edge from its start to its
-- end without a gap.
abbrev mutual
  pub Derives : Grammar → List TokenForms → Tree → Edge → Type 0
  Derives g s (leaf cat entry picks) e = (e ≡ edge cat e.from (e.from + 1)) × IsWord g s cat entry picks e.from
  Derives g s (inner cat parts) e =
      (e.cat ≡ cat) × ((rule : Rule) × (rule_of g cat ≡ Some rule) × Walks rule.graph (occurrences parts) × Covers g s rule parts e.from e.to)

  -- an empty item covers nothing; a daughter covers what is derived below it
  pub Covers : Grammar → List TokenForms → Rule → Parts → ℕ → ℕ → Type 0
  Covers g s rule no_part at to = at ≡ to
  Covers g s rule (empty occ picks rest) at to = IsItem rule occ None picks × Covers g s rule rest at to
  Covers g s rule (daughter occ picks below rest) at to =
      (cat : Name) × (mid : ℕ) × IsItem rule occ (Some cat) picks × Derives g s below (edge cat at mid) × Covers g s rule rest mid to

-- the tree derives the whole sentence, which has a token, from the root category
pub record Whole (g : Grammar) (s : List TokenForms) (d : Tree) : Type 0 where
  pub some_token : 1 ≤ length s
  pub derives : Derives g s d (edge g.root 0 (length s))
