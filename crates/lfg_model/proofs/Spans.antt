-- What a derivation covers, and what is left of a rule behind its parts.
use Rattle.std.proofs.Common.{◌≡◌, ℕ, ◌+◌, List, sym, subst, Some, None}
use Rattle.lfg_terms.specs.declared.node.Edge.{Edge}
use Rattle.lfg_terms.specs.declared.grammar.Rule.{Rule}
use Rattle.lfg_terms.specs.declared.grammar.Grammar.{Grammar}
use Rattle.lfg_terms.specs.declared.tree.TokenForms.{TokenForms}
use Rattle.lfg_model.specs.Terms.{Name, Tree, Parts, no_part, empty, daughter}
use Rattle.lfg_model.specs.Derive.{Runs, occurrences, IsItem, Derives, Covers, edge}
use Rattle.lfg_model.specs.Trees.{width, edge_of}
use Rattle.lfg_model.specs.Grounded.{IsEmptyItem, IsItemOf}
use Rattle.lfg_model.specs.Kept.{Derivable, Crosses, by_none, by_edge, Ends, at_end, before}
use Rattle.lfg_model.proofs.DeriveLaws.{Derives-width, Derives-edge}

-- the item of a part
pub empty_item : (rule : Rule) (occ : ℕ) (picks : List ℕ) → IsItem rule occ None picks → IsEmptyItem rule occ
empty_item rule occ picks i = (i.item, i.listed, i.category)

pub item_of : (rule : Rule) (occ : ℕ) (cat : Name) (picks : List ℕ) → IsItem rule occ (Some cat) picks → IsItemOf rule occ cat
item_of rule occ cat picks i = (i.item, i.listed, i.category)

module _ (g : Grammar) (s : List TokenForms) where
  -- where a tree ends, and which edge it has
  pub tree_end : (d : Tree) (e : Edge) → Derives g s d e → e.from + width d ≡ e.to
  tree_end d e h = sym (Derives-width g s d e h)

  pub tree_edge : (d : Tree) (e : Edge) → Derives g s d e → edge_of d e.from ≡ e
  tree_edge d e h = sym (Derives-edge g s d e h)

  pub derivable : (d : Tree) (e : Edge) → Derives g s d e → Derivable g s e
  derivable d e h = record { tree = d; derives = h }

  -- each part crosses its item
  pub crosses_empty : (rule : Rule) (occ at : ℕ) (picks : List ℕ) → IsItem rule occ None picks → Crosses g s rule occ at at
  crosses_empty rule occ at picks i = by_none i.item i.listed i.category

  pub crosses_daughter : (rule : Rule) (occ at mid : ℕ) (cat : Name) (picks : List ℕ) (d : Tree) → IsItem rule occ (Some cat) picks → Derives g s d (edge cat at mid) → Crosses g s rule occ at mid
  crosses_daughter rule occ at mid cat picks d i h = by_edge i.item cat i.listed i.category (derivable d (edge cat at mid) h)

  -- behind an item the rule ends by its parts
  pub ends_of : (parts : Parts) (rule : Rule) (q at end : ℕ) → Runs rule.graph q (occurrences parts) → Covers g s rule parts at end → Ends g s rule end q at
  ends_of no_part rule q at end run h = let P : ℕ → Type 0 = λ n. Ends g s rule end q n in subst P (sym h) (at_end run)
  ends_of (empty occ picks rest) rule q at end run h = before occ run.0 (crosses_empty rule occ at picks h.0) (ends_of rest rule occ at end run.1 h.1)
  ends_of (daughter occ picks below rest) rule q at end run h =
      before occ run.0 (crosses_daughter rule occ at h.1 h.0 picks below h.2 h.3) (ends_of rest rule occ h.1 end run.1 h.4)
