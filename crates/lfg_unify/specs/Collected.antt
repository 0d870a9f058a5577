-- A system of equations between places that says what literals in contexts state.
use Rattle.std.specs.Prelude.{◌≡◌, ℕ, List, map}
use Rattle.std.specs.List.{flat_map}
use Rattle.lfg_terms.specs.Order.{node_cmp}
use Rattle.lfg_terms.specs.declared.node.Node.{Node}
use Rattle.lfg_terms.specs.declared.literal.Literal.{Literal}
use Rattle.lfg_model.specs.declared.constant.Constant.{Constant}
use Rattle.lfg_model.specs.Lists.{In, Lists}
use Rattle.lfg_model.specs.Terms.{Name}
use Rattle.lfg_context.specs.Seen.{Set}
use Rattle.lfg_unify.specs.declared.system.System.{System}
use Rattle.lfg_unify.specs.Closures.{Row, Closed, place_in}
use Rattle.lfg_unify.specs.Marks.{found_in, given_in, arc_in, IsMarked, AreArcs}
use Rattle.std.specs.Prelude.{true, false}

-- the system says by places what the literals state of these nodes
pub record IsCollected (ns : List Node) (literals : List (Literal × Set)) (listed : List (Node × Name × Node × Set)) (s : System) : Type 0 where
  pub nodes : Lists node_cmp (λ n. In n (flat_map (λ l. found_in true l.0) literals)) ns
  pub there : IsMarked ns true literals s.there.items
  pub given : s.given.items ≡ flat_map (given_in ns) literals
  pub defined : Row
  pub marked : IsMarked ns false literals defined
  pub arcs : AreArcs ns defined listed
  pub numbered : s.arcs.items ≡ map (arc_in ns) listed

-- a value, the source of an arc and a set, by their places
abbrev pub placed_in : List Node → Node × Constant × Set → (ℕ × Constant) × Set
placed_in ns v = ((place_in ns v.0, v.1), v.2)

abbrev pub source_in : List Node → Node × Name × Node × Set → ℕ × Set
source_in ns r = (place_in ns r.0, r.3)

abbrev pub set_in : List Node → Node × Node × Set → ℕ × Set
set_in ns m = (place_in ns m.1, m.2)

-- the closure has just these parts
pub record IsFinished (ns : List Node) (rows : List Row) (listed : List (Node × Name × Node × Set)) (stated : List (Node × Constant × Set)) (joined : List (Node × Node × Set)) (bad none : Set) (k : Closed) : Type 0 where
  pub nodes : k.nodes ≡ ns
  pub rows_are : k.rows ≡ rows
  pub arcs : k.arcs ≡ listed
  pub values : k.values ≡ stated
  pub members : k.members ≡ joined
  pub clash : k.clash ≡ bad
  pub empty : k.empty ≡ none
