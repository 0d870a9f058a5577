-- Nodes by their numbers, which are their places in a table of nodes, counted from 0.
use Rattle.std.specs.Prelude.{◌≡◌, ℕ, List, [], ◌∷◌, ◌++◌, Some, slice_get}
use Rattle.lfg_terms.specs.declared.node.Edge.{Edge}
use Rattle.lfg_terms.specs.declared.node.Node as node
use Rattle.lfg_terms.specs.declared.node.Node.{Node}
use Rattle.lfg_model.specs.declared.constant.Constant.{Constant}
use Rattle.lfg_model.specs.Lists.{In}
use Rattle.lfg_model.specs.Terms.{Name, Path}
use Rattle.lfg_solve.specs.declared.classes.Arc.{Arc}
use Rattle.lfg_solve.specs.declared.solution.Value.{Value}
use Rattle.lfg_solve.specs.declared.solution.Membership.{Membership}

-- each item stands for some x with P, and each such x has an item that stands for it
pub record Corresponds {X Y : Type 0} (StandsFor : Y → X → Type 0) (P : X → Type 0) (items : List Y) : Type 0 where
  pub sound : (y : Y) → In y items → (x : X) × P x × StandsFor y x
  pub all : (x : X) → P x → (y : Y) × In y items × StandsFor y x

-- one attribute more leads from the first node to the last
pub record IsStep (x : Node) (a : Name) (t : Node) : Type 0 where
  pub edge : Edge
  pub path : Path
  pub start : x ≡ node.At edge path
  pub end : t ≡ node.At edge (path ++ a ∷ [])

-- the steps to the nodes of a list
pub record IsStepTo (ts : List Node) (s : Node × Name × Node) : Type 0 where
  pub listed : In s.2 ts
  pub step : IsStep s.0 s.1 s.2

-- the numbers stand for the two nodes
pub record ArePlaces (nodes : List Node) (numbers : ℕ × ℕ) (pair : Node × Node) : Type 0 where
  pub first : slice_get nodes numbers.0 ≡ Some pair.0
  pub second : slice_get nodes numbers.1 ≡ Some pair.1

-- the arc between numbers stands for the one between nodes
pub record IsArcOf (nodes : List Node) (arc : Arc) (s : Node × Name × Node) : Type 0 where
  pub start : slice_get nodes arc.from ≡ Some s.0
  pub attribute : arc.attribute ≡ s.1
  pub end : slice_get nodes arc.to ≡ Some s.2

-- the arc between labels stands for the one between numbers
pub record IsLabelled (labels : List ℕ) (arc numbered : Arc) : Type 0 where
  pub start : slice_get labels numbered.from ≡ Some arc.from
  pub attribute : arc.attribute ≡ numbered.attribute
  pub end : slice_get labels numbered.to ≡ Some arc.to

-- the node's class goes by the label
pub record HasClass (nodes : List Node) (labels : List ℕ) (x : Node) (label : ℕ) : Type 0 where
  pub number : ℕ
  pub node : slice_get nodes number ≡ Some x
  pub class : slice_get labels number ≡ Some label

-- what is said of nodes, said of their classes
pub record IsValueOf (nodes : List Node) (labels : List ℕ) (value : Value) (p : Node × Constant) : Type 0 where
  pub class : HasClass nodes labels p.0 value.class
  pub constant : value.constant ≡ p.1

pub record IsMemberOf (nodes : List Node) (labels : List ℕ) (membership : Membership) (p : Node × Node) : Type 0 where
  pub item : HasClass nodes labels p.0 membership.item
  pub set : HasClass nodes labels p.1 membership.set
