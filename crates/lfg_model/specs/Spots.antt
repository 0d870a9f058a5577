-- What a derivation has, as one list: its edges, its steps from item to item, the entries of its
-- words, and its picks.
use Rattle.std.specs.Prelude.{ℕ, ◌+◌, List, [], ◌∷◌, ◌++◌}
use Rattle.lfg_terms.specs.declared.node.Edge.{Edge}
use Rattle.lfg_terms.specs.declared.literal.Site.{Site}
use Rattle.lfg_terms.specs.declared.literal.Site.TheVariants as site
use Rattle.lfg_terms.specs.declared.grammar.Grammar.{Grammar}
use Rattle.lfg_terms.specs.declared.tree.TokenForms.{TokenForms}
pub use Rattle.lfg_model.specs.declared.point.Point.{Point}
pub use Rattle.lfg_model.specs.declared.point.Next.{Next}
use Rattle.lfg_model.specs.declared.point.Next.TheVariants as next
use Rattle.lfg_model.specs.Lists.{In}
use Rattle.lfg_model.specs.Terms.{Tree, leaf, inner, Parts, no_part, empty, daughter}
use Rattle.lfg_model.specs.Derive.{Whole}
use Rattle.lfg_model.specs.Trees.{width, edge_of}

-- The item `occ` of the edge's rule was read last, or nothing for 0, and the next begins at the
-- place.
abbrev pub point : Edge → ℕ → ℕ → Point
point e occ at = record { edge = e; occ = occ; at = at }

-- Something that a derivation has: an edge; at a point a step to the next item or to the end of
-- the rule; the entry of a lexical edge; the picks of an item's or entry's annotation.
pub data Spot : Type 0 where
  AnEdge : Edge → Spot
  AStep : Point → Next → Spot
  AWord : Edge → (entry : ℕ) → Spot
  APick : Site → (picks : List ℕ) → Spot

-- all that a tree has that begins at a place, in the order of the tree
abbrev mutual
  pub spots_of : Tree → ℕ → List Spot
  spots_of (leaf cat entry picks) from =
      let own = edge_of (leaf cat entry picks) from in
      AnEdge own ∷ AWord own entry ∷ APick (site.Entry own entry) picks ∷ []
  spots_of (inner cat parts) from = AnEdge (edge_of (inner cat parts) from) ∷ parts_spots (edge_of (inner cat parts) from) 0 parts from

  -- that of the parts of an edge, from a place on, where the item q was read last
  pub parts_spots : Edge → ℕ → Parts → ℕ → List Spot
  parts_spots e q no_part at = AStep (point e q at) next.End ∷ []
  parts_spots e q (empty occ picks rest) at = AStep (point e q at) (next.Item occ at) ∷ APick (site.Item e occ at at) picks ∷ parts_spots e occ rest at
  parts_spots e q (daughter occ picks below rest) at =
      let to = at + width below in
      AStep (point e q at) (next.Item occ to) ∷ APick (site.Item e occ at to) picks ∷ spots_of below at ++ parts_spots e occ rest to

-- some whole derivation of the sentence has it
pub record Stands (g : Grammar) (s : List TokenForms) (x : Spot) : Type 0 where
  pub derivation : Tree
  pub whole : Whole g s derivation
  pub has : In x (spots_of derivation 0)
