-- What a derivation has: its edges, its literals and the facts of its tree.
use Rattle.std.specs.Prelude.{ℕ, ◌+◌, Option, Some, None, List, [], ◌∷◌, ◌++◌, slice_get, codes}
use Rattle.lfg_terms.specs.declared.node.Edge.{Edge}
use Rattle.lfg_terms.specs.declared.node.Node as node
use Rattle.lfg_terms.specs.declared.node.Arg as arg
use Rattle.lfg_terms.specs.declared.node.Arg.{Arg}
use Rattle.lfg_terms.specs.declared.node.Fact.{Fact}
use Rattle.lfg_terms.specs.declared.literal.Site.TheVariants as site
use Rattle.lfg_terms.specs.declared.literal.Literal.{Literal}
use Rattle.lfg_terms.specs.declared.grammar.Item.{Item}
use Rattle.lfg_terms.specs.declared.grammar.Rule.{Rule}
use Rattle.lfg_terms.specs.declared.grammar.Lex.{Lex}
use Rattle.lfg_terms.specs.declared.grammar.Grammar.{Grammar}
use Rattle.lfg_terms.specs.declared.tree.TokenForms.{TokenForms}
use Rattle.lfg_model.specs.Terms.{Name, Annotation, no_schema, annotation_of, Tree, leaf, inner, Parts, no_part, empty, daughter}
use Rattle.lfg_model.specs.Resolve.{resolved}
use Rattle.lfg_model.specs.Derive.{rule_of, item_at, edge}

-- how many tokens a tree covers
abbrev mutual
  pub width : Tree → ℕ
  width (leaf cat entry picks) = 1
  width (inner cat parts) = parts_width parts

  pub parts_width : Parts → ℕ
  parts_width no_part = 0
  parts_width (empty occ picks rest) = parts_width rest
  parts_width (daughter occ picks below rest) = width below + parts_width rest

-- the category of a tree
abbrev pub cat_of : Tree → Name
cat_of (leaf cat entry picks) = cat
cat_of (inner cat parts) = cat

-- the edge of a tree that begins at a place
abbrev pub edge_of : Tree → ℕ → Edge
edge_of d from = edge (cat_of d) from (from + width d)

-- the annotation of what was looked up, or none
abbrev pub item_annotation : Option Item → Annotation
item_annotation None = no_schema
item_annotation (Some item) = annotation_of item.schemata

abbrev pub entry_annotation : Option Lex → Annotation
entry_annotation None = no_schema
entry_annotation (Some lex) = annotation_of lex.schemata

-- the items of a rule that was looked up, or none
abbrev pub items_of : Option Rule → List Item
items_of None = []
items_of (Some rule) = rule.items

-- The literals of a tree that begins at a place: those of each part's annotation and of each
-- word's. A daughter's `^` is its mother's edge and its `!` its own edge (Kaplan and Bresnan 1982). In
-- the annotation of an empty item either arrow is the mother's edge, in an entry the word's.
abbrev mutual
  pub literals : Grammar → Tree → ℕ → List Literal
  literals g (leaf cat entry picks) from =
      let own = edge cat from (from + 1) in
      resolved (record { up = own; down = own; site = site.Entry own entry }) (entry_annotation (slice_get g.lexicon entry)) picks 0
  literals g (inner cat parts) from =
      parts_literals g (items_of (rule_of g cat)) (edge cat from (from + parts_width parts)) parts from

  pub parts_literals : Grammar → List Item → Edge → Parts → ℕ → List Literal
  parts_literals g items mother no_part at = []
  parts_literals g items mother (empty occ picks rest) at =
      resolved (record { up = mother; down = mother; site = site.Item mother occ at at }) (item_annotation (item_at items occ)) picks 0
      ++ parts_literals g items mother rest at
  parts_literals g items mother (daughter occ picks below rest) at =
      let to = at + width below in
      resolved (record { up = mother; down = edge_of below at; site = site.Item mother occ at to }) (item_annotation (item_at items occ)) picks 0
      ++ (literals g below at ++ parts_literals g items mother rest to)

-- an edge as an argument of a fact: its own node
abbrev pub edge_arg : Edge → Arg
edge_arg e = arg.Node (node.At e [])

-- the daughter's edge lies directly under the mother's
abbrev pub under : Edge → Edge → Fact
under below mother = record { rel = codes "under"; args = edge_arg below ∷ edge_arg mother ∷ [] }

-- the edge is that of a token with this text
abbrev pub word : Edge → Name → Fact
word e text = record { rel = codes "word"; args = edge_arg e ∷ arg.Atom text ∷ [] }

-- the fact of a word, if its token is there
abbrev pub word_facts : Option TokenForms → Edge → List Fact
word_facts None e = []
word_facts (Some token) e = word e token.text ∷ []

-- The facts of a tree that begins at a place: `under` joins a daughter to its mother, `word` a word's
-- edge to its text (this project's own).
abbrev mutual
  pub tree_facts : List TokenForms → Tree → ℕ → List Fact
  tree_facts s (leaf cat entry picks) from = word_facts (slice_get s from) (edge cat from (from + 1))
  tree_facts s (inner cat parts) from = parts_facts s (edge cat from (from + parts_width parts)) parts from

  pub parts_facts : List TokenForms → Edge → Parts → ℕ → List Fact
  parts_facts s mother no_part at = []
  parts_facts s mother (empty occ picks rest) at = parts_facts s mother rest at
  parts_facts s mother (daughter occ picks below rest) at =
      under (edge_of below at) mother ∷ (tree_facts s below at ++ parts_facts s mother rest (at + width below))
