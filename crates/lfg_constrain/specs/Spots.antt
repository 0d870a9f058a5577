-- Where walks lead to, at all assignments at once: spots, each the place of a node with a context.
use Rattle.std.specs.Prelude.{◌≡◌, ◌↔◌, ◌⊎◌, ℕ, true, List, [], ◌∷◌}
use Rattle.lfg_terms.specs.declared.node.Node.{Node}
use Rattle.lfg_terms.specs.declared.literal.Literal.{Literal}
use Rattle.lfg_terms.specs.declared.literal.Walk.{Walk}
use Rattle.lfg_model.specs.Lists.{In}
use Rattle.lfg_model.specs.Terms.{Name, Path}
use Rattle.lfg_model.specs.Solve.{LeadsTo, Reaches}
use Rattle.lfg_context.specs.Seen.{Set, Known}
use Rattle.lfg_context.specs.Sets.{Assignment, member}
use Rattle.lfg_context.specs.Telling.{InSome}
use Rattle.lfg_unify.specs.Closures.{Row, Closed, place_in, equal_at, SameAt, closure_at, IsClosureOf}
use Rattle.lfg_unify.specs.Rows.{Stands}

-- the closure is that of some literals in these contexts
pub record IsClosure (c : Known) (k : Closed) : Type 0 where
  pub literals : List (Literal × Set)
  pub is : IsClosureOf c literals k

-- the spot holds, and its node is equal to the node at the place
pub record IsMet (k : Closed) (place : ℕ) (spot : ℕ × Set) (a : Assignment) : Type 0 where
  pub holds : member spot.1 a ≡ true
  pub same : member (equal_at k spot.0 place) a ≡ true

-- the set holds, and some spot is met at the place
pub record Touches (k : Closed) (spots : Row) (place : ℕ) (set : Set) (a : Assignment) : Type 0 where
  pub by_set : member set a ≡ true
  pub met : InSome spots (IsMet k place) a

-- the new spots have what the old ones have, and what the others have
pub record Joins (old more new : Row) : Type 0 where
  pub each : (a : Assignment) (y : ℕ) → Stands new a y ↔ (Stands old a y ⊎ Stands more a y)

-- the arc is one by the name that holds, from a node at which a spot is, and to the node at the place
pub record IsTaken (k : Closed) (spots : Row) (name : Name) (y : ℕ) (arc : Node × Name × Node × Set) (a : Assignment) : Type 0 where
  pub name_is : arc.1 ≡ name
  pub target : place_in k.nodes arc.2 ≡ y
  pub touched : Touches k spots (place_in k.nodes arc.0) arc.3 a

-- the new spots have what the old ones have, and where the arc leads to from the spots
pub record TakesArc (k : Closed) (spots : Row) (name : Name) (arc : Node × Name × Node × Set) (old new : Row) : Type 0 where
  pub each : (a : Assignment) (y : ℕ) → Stands new a y ↔ (Stands old a y ⊎ IsTaken k spots name y arc a)

-- the new spots are just where arcs of the list by the name lead to from the spots
pub record Steps (k : Closed) (arcs : List (Node × Name × Node × Set)) (spots : Row) (name : Name) (new : Row) : Type 0 where
  pub each : (a : Assignment) (y : ℕ) → Stands new a y ↔ InSome arcs (IsTaken k spots name y) a

-- there is just the place of the node, where the set holds and the node is there
pub record Begins (k : Closed) (start : Node) (set : Set) (spots : Row) : Type 0 where
  pub each : (a : Assignment) (y : ℕ) → Stands spots a y ↔ ((y ≡ place_in k.nodes start) × (member set a ≡ true) × SameAt k a start start)

-- some spot is at a node equal to this one
pub record IsReached (k : Closed) (spots : Row) (a : Assignment) (x : Node) : Type 0 where
  pub place : ℕ
  pub stands : Stands spots a place
  pub same : member (equal_at k place (place_in k.nodes x)) a ≡ true

-- there is a node at the place
pub record IsAtNode (k : Closed) (a : Assignment) (place : ℕ) : Type 0 where
  pub node : Node
  pub is : place_in k.nodes node ≡ place
  pub same : SameAt k a node node

-- spots are at nodes that are there
pub record AreAtNodes (k : Closed) (spots : Row) : Type 0 where
  pub each : (a : Assignment) (y : ℕ) → Stands spots a y → IsAtNode k a y

-- the spots are where the path leads to from the node, within the set
pub record Follows (k : Closed) (start : Node) (set : Set) (path : Path) (spots : Row) : Type 0 where
  pub there : AreAtNodes k spots
  pub each : (a : Assignment) (z : Node) → IsReached k spots a z ↔ ((member set a ≡ true) × LeadsTo (closure_at k a) start path z)

-- the spots are where one of the paths leads to from the node, within the set
pub record FollowsSome (k : Closed) (start : Node) (set : Set) (paths : List Path) (spots : Row) : Type 0 where
  pub there : AreAtNodes k spots
  pub each : (a : Assignment) (z : Node) → IsReached k spots a z ↔ ((member set a ≡ true) × ((p : Path) × In p paths × LeadsTo (closure_at k a) start p z))
