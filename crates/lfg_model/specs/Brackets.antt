-- The text of a derivation's tree, and the law that the text of its facts is the same.
use Rattle.std.specs.Prelude.{◌≡◌, ℕ, ◌+◌, ◌<◌, Option, Some, None, List, [], ◌∷◌, ◌++◌, slice_get, codes}
use Rattle.lfg_terms.specs.Order.{fact_cmp}
use Rattle.lfg_terms.specs.Texts.{name_text}
use Rattle.lfg_terms.specs.declared.node.Edge.{Edge}
use Rattle.lfg_terms.specs.declared.node.Fact.{Fact}
use Rattle.lfg_terms.specs.declared.grammar.Grammar.{Grammar}
use Rattle.lfg_terms.specs.declared.tree.TokenForms.{TokenForms}
use Rattle.lfg_model.specs.Lists.{In, Once, Lists}
use Rattle.lfg_model.specs.Terms.{Tree, leaf, inner, Parts, no_part, empty, daughter}
use Rattle.lfg_model.specs.Derive.{edge, Derives}
use Rattle.lfg_model.specs.Trees.{width, edge_of, tree_facts}
use Rattle.lfg_model.specs.PairTexts.{tree_text}

-- all edges of a tree that begins at a place
abbrev mutual
  pub edges : Tree → ℕ → List Edge
  edges (leaf cat entry picks) from = edge cat from (from + 1) ∷ []
  edges (inner cat parts) from = edge_of (inner cat parts) from ∷ parts_edges parts from

  pub parts_edges : Parts → ℕ → List Edge
  parts_edges no_part at = []
  parts_edges (empty occ picks rest) at = parts_edges rest at
  parts_edges (daughter occ picks below rest) at = edges below at ++ parts_edges rest (at + width below)

-- a space and the text of the token
abbrev pub token_text : Option TokenForms → List ℕ
token_text None = []
token_text (Some token) = 32 ∷ name_text token.text

-- in brackets, the category and the word, or the category and the texts of the daughters
abbrev mutual
  pub bracketed : List TokenForms → Tree → ℕ → List ℕ
  bracketed s (leaf cat entry picks) from = codes "[" ++ name_text cat ++ token_text (slice_get s from) ++ codes "]"
  bracketed s (inner cat parts) from = codes "[" ++ name_text cat ++ parts_text s parts from ++ codes "]"

  pub parts_text : List TokenForms → Parts → ℕ → List ℕ
  parts_text s no_part at = []
  parts_text s (empty occ picks rest) at = parts_text s rest at
  parts_text s (daughter occ picks below rest) at = 32 ∷ bracketed s below at ++ parts_text s rest (at + width below)

-- Law: where no edge of a derivation stands twice and each begins before its end, the text of the
-- tree's facts is the text of the tree.
abbrev pub TreeTextIsBracketed : Type 0
TreeTextIsBracketed =
    (g : Grammar) (s : List TokenForms) (d : Tree) (e : Edge) (facts : List Fact) → Derives g s d e
    → Once (edges d e.from) → ((x : Edge) → In x (edges d e.from) → x.from < x.to)
    → Lists fact_cmp (λ f. In f (tree_facts s d e.from)) facts → tree_text facts ≡ bracketed s d e.from
