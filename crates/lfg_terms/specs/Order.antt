-- The orders of edges, nodes, arguments and facts; those of names and paths are in `PathOrder`.
--
-- A node and an argument hold each other, so both are compared one layer at a time: the order of
-- a node's layer takes the order of arguments, and that of an argument's layer the order of nodes.
-- `node_cmp` ties the knot, and obeys `node_cmp a b ≡ node_order arg_cmp a b` (`node_cmp_layer` in `OrderLaws`).
use Rattle.std.specs.Prelude.{ℕ, zero, suc, max, List, [], ◌∷◌, length, Option, Some, None}
use Rattle.std.specs.declared.cmp.Ordering.{Ordering}
use Rattle.std.specs.declared.cmp.Ordering.TheVariants.{Equal}
use Rattle.std.specs.Ordering.{nat_cmp, on, then_cmp, flip_args}
use Rattle.std.specs.Cmp.Lexicographic.{slice_cmp}
use Rattle.std.specs.Option.{option_cmp}
pub use Rattle.lfg_terms.specs.PathOrder.{name_cmp, path_cmp}
use Rattle.lfg_terms.specs.declared.node.Edge.{Edge}
use Rattle.lfg_terms.specs.declared.node.Fact.{Fact}
use Rattle.lfg_terms.specs.declared.node.Node.{Node, out-Node}
use Rattle.lfg_terms.specs.declared.node.Arg.{Arg, out-Arg}
use Rattle.lfg_terms.specs.declared.node.Arg.TheOpen.{Node-F, Arg-F}
use Rattle.lfg_terms.specs.declared.node.Arg.TheOpen as layer
use Rattle.lfg_terms.specs.declared.node.Arg.TheFolds.{fold-Node, fold-Arg}

-- ---- edges

-- edges are ordered by start, then the later end first, then by category
abbrev pub edge_cmp : Edge → Edge → Ordering
edge_cmp = then_cmp (on (λ e. e.from) nat_cmp) (then_cmp (flip_args (on (λ e. e.to) nat_cmp)) (on (λ e. e.cat) name_cmp))

-- ---- how deep new nodes are nested

-- the greatest of some numbers, 0 of none
abbrev pub greatest : List ℕ → ℕ
greatest [] = 0
greatest (n ∷ ns) = max n (greatest ns)

-- the depth of an argument is that of its node, and 0 at an atom
abbrev pub arg_depth_step : Arg-F ℕ ℕ → ℕ
arg_depth_step (layer.Atom name) = 0
arg_depth_step (layer.Node d) = d

-- the depth of a new node is one more than the greatest depth in its binding; that of another node is 0
abbrev pub node_depth_step : Node-F ℕ ℕ → ℕ
node_depth_step (layer.At edge path) = 0
node_depth_step (layer.New rule var binding) = suc (greatest binding)

abbrev pub node_depth : Node → ℕ
node_depth = fold-Node ℕ ℕ arg_depth_step node_depth_step

abbrev pub arg_depth : Arg → ℕ
arg_depth = fold-Arg ℕ ℕ arg_depth_step node_depth_step

-- ---- nodes

-- `At` comes before `New`
abbrev pub node_kind : Node-F Arg Node → ℕ
node_kind (layer.At edge path) = 0
node_kind (layer.New rule var binding) = 1

-- an `At`'s edge and path
abbrev pub AtParts : Type 0
AtParts = Edge × List (List ℕ)

abbrev pub at_parts : Node-F Arg Node → Option AtParts
at_parts (layer.At edge path) = Some (edge, path)
at_parts (layer.New rule var binding) = None

-- a `New`'s rule, variable and binding
abbrev pub NewParts : Type 0
NewParts = ℕ × List ℕ × List Arg

abbrev pub new_parts : Node-F Arg Node → Option NewParts
new_parts (layer.At edge path) = None
new_parts (layer.New rule var binding) = Some (rule, var, binding)

-- two `At` are ordered by the path's length, then the edge, then the path
abbrev pub at_cmp : AtParts → AtParts → Ordering
at_cmp = then_cmp (on (λ p. length p.1) nat_cmp) (then_cmp (on (λ p. p.0) edge_cmp) (on (λ p. p.1) (slice_cmp name_cmp)))

-- two `New` are ordered by rule, then the variable, then the binding argument by argument, where R orders arguments
abbrev pub new_cmp : (Arg → Arg → Ordering) → NewParts → NewParts → Ordering
new_cmp R = then_cmp (on (λ p. p.0) nat_cmp) (then_cmp (on (λ p. p.1) name_cmp) (on (λ p. p.2) (slice_cmp R)))

-- two nodes of one depth are ordered by kind, then by the parts of that kind
abbrev pub node_layer_cmp : (Arg → Arg → Ordering) → Node-F Arg Node → Node-F Arg Node → Ordering
node_layer_cmp R = then_cmp (on node_kind nat_cmp) (then_cmp (on at_parts (option_cmp at_cmp)) (on new_parts (option_cmp (new_cmp R))))

-- nodes are ordered by depth, which is 0 at each `At` and no `New`, and then within one depth
abbrev pub node_order : (Arg → Arg → Ordering) → Node → Node → Ordering
node_order R = then_cmp (on node_depth nat_cmp) (on out-Node (node_layer_cmp R))

-- ---- arguments

-- atoms come before nodes
abbrev pub arg_kind : Arg-F Arg Node → ℕ
arg_kind (layer.Atom name) = 0
arg_kind (layer.Node node) = 1

abbrev pub atom_part : Arg-F Arg Node → Option (List ℕ)
atom_part (layer.Atom name) = Some name
atom_part (layer.Node node) = None

abbrev pub node_part : Arg-F Arg Node → Option Node
node_part (layer.Atom name) = None
node_part (layer.Node node) = Some node

-- two atoms are ordered by name, and two nodes as R orders nodes
abbrev pub arg_layer_cmp : (Node → Node → Ordering) → Arg-F Arg Node → Arg-F Arg Node → Ordering
arg_layer_cmp R = then_cmp (on arg_kind nat_cmp) (then_cmp (on atom_part (option_cmp name_cmp)) (on node_part (option_cmp R)))

abbrev pub arg_order : (Node → Node → Ordering) → Arg → Arg → Ordering
arg_order R = on out-Arg (arg_layer_cmp R)

-- ---- the orders of nodes, arguments and facts

-- the order of nodes of at most this depth
abbrev pub node_cmp_to : ℕ → Node → Node → Ordering
node_cmp_to zero = node_order (λ x y. Equal)
node_cmp_to (suc n) = node_order (arg_order (node_cmp_to n))

-- the order of nodes: a node's own depth is deep enough
unfoldable pub node_cmp : Node → Node → Ordering
node_cmp a b = node_cmp_to (node_depth a) a b

-- the order of arguments
abbrev pub arg_cmp : Arg → Arg → Ordering
arg_cmp = arg_order node_cmp

-- facts are ordered by relation, then the number of arguments, then the arguments from the first
abbrev pub fact_cmp : Fact → Fact → Ordering
fact_cmp = then_cmp (on (λ f. f.rel) name_cmp) (then_cmp (on (λ f. length f.args) nat_cmp) (on (λ f. f.args) (slice_cmp arg_cmp)))
