-- The texts of trees and pairs, and the order of pairs (this project's own).
use Rattle.std.specs.Prelude.{ℕ, zero, suc, Bool, false, not, Option, Some, None, List, [], ◌∷◌, ◌++◌, length, map, filter, find, codes}
use Rattle.std.specs.List.{flat_map, list_any}
use Rattle.std.specs.declared.cmp.Ordering.{Ordering}
use Rattle.std.specs.Ordering.{nat_cmp, on, then_cmp, eq_by_cmp}
use Rattle.std.specs.Cmp.Lexicographic.{slice_cmp}
use Rattle.lfg_terms.specs.Order.{edge_cmp, fact_cmp}
use Rattle.lfg_terms.specs.Texts.{name_text}
use Rattle.lfg_terms.specs.FactTexts.{fact_text}
use Rattle.lfg_terms.specs.declared.node.Edge.{Edge}
use Rattle.lfg_terms.specs.declared.node.Node as node
use Rattle.lfg_terms.specs.declared.node.Arg as arg
use Rattle.lfg_terms.specs.declared.node.Arg.{Arg}
use Rattle.lfg_terms.specs.declared.node.Fact.{Fact}
use Rattle.lfg_model.specs.declared.pair.Pair.{Pair}
use Rattle.lfg_model.specs.Terms.{Name}

-- two edges are one
abbrev pub same_edge : Edge → Edge → Bool
same_edge = eq_by_cmp edge_cmp

-- a tree fact read by its arguments: a daughter under its mother, or a word under its edge
pub data Branch : Type 0 where
  to_daughter : (daughter mother : Edge) → Branch
  to_word : (text : Name) → (mother : Edge) → Branch
  no_branch : Branch

abbrev pub branch_of : List Arg → Branch
branch_of (arg.Node (node.At daughter p) ∷ arg.Node (node.At mother q) ∷ []) = to_daughter daughter mother
branch_of (arg.Node (node.At mother p) ∷ arg.Atom text ∷ []) = to_word text mother
branch_of _ = no_branch

-- whether this stands under the edge
abbrev pub is_under : Edge → Branch → Bool
is_under e (to_daughter daughter mother) = same_edge mother e
is_under e (to_word text mother) = same_edge mother e
is_under e no_branch = false

-- what stands under an edge, in the order of the facts
abbrev pub branches_under : List Fact → Edge → List Branch
branches_under facts e = filter (is_under e) (map (λ f. branch_of f.args) facts)

-- a space and the daughter or the word; `deeper` gives the text of a daughter
abbrev pub branch_text : (Edge → List ℕ) → Branch → List ℕ
branch_text deeper (to_daughter daughter mother) = 32 ∷ deeper daughter
branch_text deeper (to_word text mother) = 32 ∷ name_text text
branch_text deeper no_branch = []

-- the text of the tree below an edge, to this depth: in brackets, the category and what stands
-- under the edge
abbrev pub text_below : ℕ → List Fact → Edge → List ℕ
text_below zero facts e = []
text_below (suc depth) facts e =
    codes "[" ++ name_text e.cat ++ flat_map (branch_text (text_below depth facts)) (branches_under facts e) ++ codes "]"

-- the edge under which this stands
abbrev pub mothers : Branch → List Edge
mothers (to_daughter daughter mother) = mother ∷ []
mothers (to_word text mother) = mother ∷ []
mothers no_branch = []

-- whether this is the edge as a daughter
abbrev pub is_to : Edge → Branch → Bool
is_to e (to_daughter daughter mother) = same_edge daughter e
is_to e (to_word text mother) = false
is_to e no_branch = false

-- the root: the edge that has something under it and is no daughter
abbrev pub root_of : List Fact → Option Edge
root_of facts =
    find (λ e. not (list_any (λ f. is_to e (branch_of f.args)) facts)) (flat_map (λ f. mothers (branch_of f.args)) facts)

abbrev pub root_text : List Fact → Option Edge → List ℕ
root_text facts None = []
root_text facts (Some root) = text_below (length facts) facts root

-- The text of the tree of these facts. No tree is deeper than it has facts.
abbrev pub tree_text : List Fact → List ℕ
tree_text facts = root_text facts (root_of facts)

-- the line of the tree, then a line for each fact of the f-structure
abbrev pub pair_text : Pair → List ℕ
pair_text p = codes "tree " ++ tree_text p.tree ++ 10 ∷ flat_map (λ f. fact_text [] f ++ 10 ∷ []) p.facts

-- pairs by their texts; of two with one text the facts of the trees decide, then those of the
-- f-structures
abbrev pub pair_cmp : Pair → Pair → Ordering
pair_cmp =
    then_cmp (on pair_text (slice_cmp nat_cmp)) (then_cmp (on (λ p. p.tree) (slice_cmp fact_cmp)) (on (λ p. p.facts) (slice_cmp fact_cmp)))
