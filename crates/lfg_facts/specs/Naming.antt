-- What the classes of a closure are called, at all assignments at once.
use Rattle.std.specs.Prelude.{◌≡◌, ◌↔◌, ◌⊎◌, ℕ, ◌<◌, ◌≤◌, true, false, List, [], length, slice_get, slice_index_or, Some}
use Rattle.lfg_terms.specs.declared.node.Node.{Node}
use Rattle.lfg_terms.specs.declared.node.Arg as arg
use Rattle.lfg_terms.specs.declared.node.Arg.{Arg}
use Rattle.lfg_model.specs.declared.constant.Constant.{Constant}
use Rattle.lfg_model.specs.declared.constant.Constant.TheVariants as constant
use Rattle.lfg_model.specs.Lists.{In}
use Rattle.lfg_model.specs.Terms.{Name}
use Rattle.lfg_model.specs.Readings.{Called}
use Rattle.lfg_context.specs.Seen.{Set, Known}
use Rattle.lfg_context.specs.Sets.{Assignment, member, AreMade}
use Rattle.lfg_unify.specs.Closures.{Row, Closed, place_in, equal_at, closure_at}
use Rattle.lfg_unify.specs.Holding.{Stated}
use Rattle.lfg_unify.specs.Rows.{Stands}

-- what a class is called, with the sets of assignments at which it is
abbrev pub Names : Type 0
Names = List (Arg × Set)

-- what a class with the constant is called: the atom, or the name of the form
abbrev pub constant_name : Constant → Name
constant_name (constant.Atom a) = a
constant_name (constant.Form form site index) = form.name

-- the value holds of an equal of the node at the place, and this is its name
pub record IsValueName (k : Closed) (place : ℕ) (c : Arg) (value : Node × Constant × Set) (a : Assignment) : Type 0 where
  pub is : c ≡ arg.Atom (constant_name value.1)
  pub holds : member value.2 a ≡ true
  pub same : member (equal_at k place (place_in k.nodes value.0)) a ≡ true

-- the name holds
abbrev pub Holds : Arg × Set → Assignment → Type 0
Holds name a = member name.1 a ≡ true

-- The name is the first node of the row, where the set does not hold.
pub record IsNodeName (nodes : List Node) (row : Row) (valued : Set) (c : Arg) (a : Assignment) : Type 0 where
  pub place : ℕ
  pub node : Node
  pub there : slice_get nodes place ≡ Some node
  pub is : c ≡ arg.Node node
  pub stands : Stands row a place
  pub first : (m : ℕ) → Stands row a m → place ≤ m
  pub free : member valued a ≡ false

-- the set holds, or some place of the row does
pub record IsBefore (valued : Set) (row : Row) (a : Assignment) : Type 0 where
  pub either : (member valued a ≡ true) ⊎ ((m : ℕ) × Stands row a m)

-- the names are just what the class of the node at the place is called
pub record AreNamesAt (k : Closed) (place : ℕ) (names : Names) : Type 0 where
  pub each : (a : Assignment) (x : Node) (c : Arg) → place_in k.nodes x ≡ place → Stated names a c ↔ Called (closure_at k a) x c

-- the names of a place in a table of names; none behind its end
abbrev pub names_in : List Names → ℕ → Names
names_in table place = slice_index_or table place []

-- the table has the names of each place
pub record AreNames (k : Closed) (table : List Names) : Type 0 where
  pub each : (a : Assignment) (x : Node) (c : Arg) → Stated (names_in table (place_in k.nodes x)) a c ↔ Called (closure_at k a) x c

-- the table has the names of each place below its end
pub record AreNamesBelow (k : Closed) (table : List Names) : Type 0 where
  pub each : (place : ℕ) → place < length table → AreNamesAt k place (names_in table place)

-- the sets of a table of names were made by these contexts
pub record AreTableSets (c : Known) (table : List Names) : Type 0 where
  pub each : (names : Names) → In names table → AreMade c (λ n. n.1) names
