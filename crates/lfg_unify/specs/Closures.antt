-- The closure of literals in contexts: what it has at each assignment, and that this is the solution
-- of the literals that hold there.
use Rattle.std.specs.Prelude.{◌≡◌, ℕ, zero, suc, ◌+◌, ◌<◌, ◌≤◌, ◌==◌, true, false, List, [], ◌∷◌, length, map, slice_index_or, if◌then◌else◌}
use Rattle.std.specs.Ordering.{eq_by_cmp}
use Rattle.std.specs.List.Sorted.{IsStrictlySortedBy}
use Rattle.lfg_terms.specs.Order.{node_cmp}
use Rattle.lfg_terms.specs.declared.node.Node.{Node}
use Rattle.lfg_terms.specs.declared.literal.Literal.{Literal}
use Rattle.lfg_model.specs.declared.constant.Constant.{Constant}
use Rattle.lfg_model.specs.Lists.{In, Lists}
use Rattle.lfg_model.specs.Terms.{Name}
use Rattle.lfg_model.specs.Literals.{nodes}
use Rattle.lfg_model.specs.Solve.{Solution, solution, AreAlike, Clash}
use Rattle.lfg_context.specs.Seen.{Set, Known}
use Rattle.lfg_context.specs.Sets.{Assignment, member, IsMade, AreMade}
use Rattle.lfg_context.specs.Telling.{Tells}
use Rattle.lfg_unify.specs.Holding.{holding, literals_of}

-- What stands beside a node: the places of nodes that are equal to it somewhere, each with the
-- context in which they are.
abbrev pub Row : Type 0
Row = List (ℕ × Set)

-- A closure, as contracts see it: its nodes in order, a row for each of them, the arcs, values and
-- members that literals state, with their contexts, the context of clashes, and the empty context.
pub record Closed : Type 0 where
  pub nodes : List Node
  pub rows : List Row
  pub arcs : List (Node × Name × Node × Set)
  pub values : List (Node × Constant × Set)
  pub members : List (Node × Node × Set)
  pub arc_places : List (ℕ × ℕ)
  pub value_places : List ℕ
  pub member_places : List (ℕ × ℕ)
  pub clash : Set
  pub empty : Set

-- the place of a node in a list, counted from 0; the length of the list where it is not there
abbrev pub place_in : List Node → Node → ℕ
place_in [] x = 0
place_in (n ∷ ns) x = if eq_by_cmp node_cmp n x then 0 else suc (place_in ns x)

-- the context beside a place in a row; the given one where the place is not there
abbrev pub context_in : Set → Row → ℕ → Set
context_in none [] j = none
context_in none (r ∷ rs) j = if r.0 == j then r.1 else context_in none rs j

-- the context in which the nodes at two places are equal
abbrev pub equal_at : Closed → ℕ → ℕ → Set
equal_at k i j = context_in k.empty (slice_index_or k.rows i []) j

-- the context in which two nodes are equal; the empty one where one of them is not there
abbrev pub equal_of : Closed → Node → Node → Set
equal_of k x y = equal_at k (place_in k.nodes x) (place_in k.nodes y)

-- the row has places from `from` on, below `count`, in ascending order
abbrev pub Ascends : ℕ → ℕ → Row → Type 0
Ascends count from [] = Unit {0}
Ascends count from (r ∷ rs) = (from ≤ r.0) × (r.0 < count) × Ascends count (suc r.0) rs

-- The form of a closure: nodes stand in order and once, there is a row for each node, and beside the
-- listed arcs, values and members stand the places of their nodes. A member's place comes before that
-- of its set.
pub record IsClosedForm (k : Closed) : Type 0 where
  pub ascends : IsStrictlySortedBy node_cmp k.nodes
  pub count : length k.rows ≡ length k.nodes
  pub arc_places : k.arc_places ≡ map (λ r. (place_in k.nodes r.0, place_in k.nodes r.2)) k.arcs
  pub value_places : k.value_places ≡ map (λ v. place_in k.nodes v.0) k.values
  pub member_places : k.member_places ≡ map (λ m. (place_in k.nodes m.0, place_in k.nodes m.1)) k.members

-- What a closure has at an assignment. What is listed of a node there is so of all its equals.
module _ (k : Closed) (a : Assignment) where
  abbrev pub SameAt : Node → Node → Type 0
  SameAt x y = member (equal_of k x y) a ≡ true

  -- some equal of the first has a listed arc by the name to an equal of the last
  pub record HasArcAt (x : Node) (name : Name) (t : Node) : Type 0 where
    pub from : Node
    pub to : Node
    pub ctx : Set
    pub listed : In (from, name, to, ctx) k.arcs
    pub holds : member ctx a ≡ true
    pub start : SameAt x from
    pub end : SameAt to t

  -- some equal of the node has the constant as a listed value
  pub record HasValueAt (x : Node) (c : Constant) : Type 0 where
    pub at : Node
    pub ctx : Set
    pub listed : In (at, c, ctx) k.values
    pub holds : member ctx a ≡ true
    pub same : SameAt x at

  -- some equal of the first is listed as a set with an equal of the last as a member
  pub record HasMemberAt (x : Node) (m : Node) : Type 0 where
    pub item : Node
    pub set : Node
    pub ctx : Set
    pub listed : In (item, set, ctx) k.members
    pub holds : member ctx a ≡ true
    pub same : SameAt x set
    pub is : SameAt item m

  abbrev pub closure_at : Solution
  closure_at = record { same = SameAt; arc = HasArcAt; value = HasValueAt; member = HasMemberAt }

-- all sets of the closure were made by these contexts
pub record AreClosureSets (c : Known) (k : Closed) : Type 0 where
  pub rows : (row : Row) → In row k.rows → AreMade c (λ r. r.1) row
  pub arcs : AreMade c (λ r. r.3) k.arcs
  pub values : AreMade c (λ v. v.2) k.values
  pub members : AreMade c (λ m. m.2) k.members
  pub clash : IsMade c k.clash
  pub empty : IsMade c k.empty

-- where what is listed holds, its nodes are there: they are equal to themselves
pub record AreThere (k : Closed) : Type 0 where
  pub arc : (a : Assignment) (x : Node) (n : Name) (t : Node) (z : Set) → In (x, n, t, z) k.arcs → member z a ≡ true → SameAt k a x x × SameAt k a t t
  pub value : (a : Assignment) (x : Node) (c : Constant) (z : Set) → In (x, c, z) k.values → member z a ≡ true → SameAt k a x x
  pub member : (a : Assignment) (m x : Node) (z : Set) → In (m, x, z) k.members → member z a ≡ true → SameAt k a m m × SameAt k a x x

-- This is the closure of the literals. Its nodes are theirs, its sets were made by the contexts, no
-- set in a row is empty, and at each assignment it has what the solution of the literals that hold
-- there has, and clashes exactly where that solution does.
pub record IsClosureOf (c : Known) (literals : List (Literal × Set)) (k : Closed) : Type 0 where
  pub made : AreClosureSets c k
  pub nodes : Lists node_cmp (λ n. In n (nodes (literals_of literals))) k.nodes
  pub none : (a : Assignment) → member k.empty a ≡ false
  pub some : (row : Row) (r : ℕ × Set) → In row k.rows → In r row → (a : Assignment) × (member r.1 a ≡ true)
  pub there : AreThere k
  pub alike : (a : Assignment) → AreAlike (closure_at k a) (solution (holding literals a))
  pub clash : Tells k.clash (λ a. Clash (solution (holding literals a)))
