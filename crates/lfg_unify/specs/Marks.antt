-- The nodes of literals in contexts, by their places.
use Rattle.std.specs.Prelude.{◌≡◌, ◌↔◌, ◌⊎◌, ℕ, ◌<◌, Bool, true, false, List, [], ◌∷◌, ◌++◌, length, map}
use Rattle.std.specs.List.{flat_map}
use Rattle.lfg_terms.specs.declared.node.Edge.{Edge}
use Rattle.lfg_terms.specs.declared.node.Node as node
use Rattle.lfg_terms.specs.declared.node.Node.{Node}
use Rattle.lfg_terms.specs.declared.literal.Literal.{Literal}
use Rattle.lfg_model.specs.declared.constant.Constant.{Constant}
use Rattle.lfg_model.specs.Lists.{In}
use Rattle.lfg_model.specs.Terms.{Name, Path}
use Rattle.lfg_model.specs.Literals.{named, with_prefixes, starts, checks_of, given_of, values_of, members_of}
use Rattle.lfg_context.specs.Seen.{Set}
use Rattle.lfg_context.specs.Sets.{Assignment, member}
use Rattle.lfg_unify.specs.Closures.{Row, place_in}
use Rattle.lfg_unify.specs.Rows.{Stands}

-- one attribute more leads from the first node to the last
pub record IsStep (x : Node) (a : Name) (t : Node) : Type 0 where
  pub edge : Edge
  pub path : Path
  pub start : x ≡ node.At edge path
  pub end : t ≡ node.At edge (path ++ a ∷ [])

-- the nodes that a literal names with all nodes on the way to them, and besides, where the whole is
-- asked, the nodes at which its walks start
abbrev pub found_in : Bool → Literal → List Node
found_in true l = flat_map with_prefixes (named l) ++ flat_map starts (checks_of l)
found_in false l = flat_map with_prefixes (named l)

-- one of the nodes stands at the place
pub record StandsAt (ns found : List Node) (y : ℕ) : Type 0 where
  pub node : Node
  pub listed : In node found
  pub place : place_in ns node ≡ y
  pub below : y < length ns

-- the new row has what the old one has, and the places of the nodes where the set holds
pub record Marks (ns found : List Node) (z : Set) (old new : Row) : Type 0 where
  pub each : (a : Assignment) (y : ℕ) → Stands new a y ↔ (Stands old a y ⊎ ((member z a ≡ true) × StandsAt ns found y))

-- a literal that holds has a node at the place
pub record IsMentioned (ns : List Node) (whole : Bool) (literals : List (Literal × Set)) (a : Assignment) (y : ℕ) : Type 0 where
  pub literal : Literal × Set
  pub listed : In literal literals
  pub holds : member literal.1 a ≡ true
  pub at : StandsAt ns (found_in whole literal.0) y

-- the row has the places of the nodes of literals, where these hold
pub record IsMarked (ns : List Node) (whole : Bool) (literals : List (Literal × Set)) (row : Row) : Type 0 where
  pub each : (a : Assignment) (y : ℕ) → Stands row a y ↔ IsMentioned ns whole literals a y

-- the arcs along the last attributes of the nodes at the places of a row, with their contexts
pub record AreArcs (ns : List Node) (row : Row) (arcs : List (Node × Name × Node × Set)) : Type 0 where
  pub sound : (x : Node) (n : Name) (t : Node) (z : Set) → In (x, n, t, z) arcs → IsStep x n t × ((y : ℕ) × In (y, z) row × (place_in ns t ≡ y) × (y < length ns) × In t ns)
  pub all : (x : Node) (n : Name) (t : Node) (y : ℕ) (z : Set) → IsStep x n t → In (y, z) row → In t ns → place_in ns t ≡ y → In (x, n, t, z) arcs

-- what a literal in a context gives: pairs of places, values, members
abbrev pub given_in : List Node → Literal × Set → List ((ℕ × ℕ) × Set)
given_in ns l = map (λ p. ((place_in ns p.0, place_in ns p.1), l.1)) (given_of l.0)

abbrev pub values_in : Literal × Set → List (Node × Constant × Set)
values_in l = map (λ v. (v.0, v.1, l.1)) (values_of l.0)

abbrev pub members_in : Literal × Set → List (Node × Node × Set)
members_in l = map (λ m. (m.0, m.1, l.1)) (members_of l.0)

-- an arc between nodes, as one between places
abbrev pub arc_in : List Node → Node × Name × Node × Set → (ℕ × Name × ℕ) × Set
arc_in ns r = ((place_in ns r.0, r.1, place_in ns r.2), r.3)
