-- The texts of nodes, arguments and facts. A new node is shown as its number in a table of new nodes.
use Rattle.std.specs.Prelude.{ℕ, ◌≢◌, ◌+◌, List, [], ◌∷◌, ◌++◌, Option, Some, None, decimal, map, position, IsSome}
use Rattle.std.specs.List.{join_with_byte, All}
use Rattle.std.specs.Ordering.{eq_by_cmp}
use Rattle.lfg_terms.specs.Order.{node_cmp}
use Rattle.lfg_terms.specs.declared.node.Node.{Node, out-Node}
use Rattle.lfg_terms.specs.declared.node.Arg.{Arg, out-Arg}
use Rattle.lfg_terms.specs.declared.node.Arg.TheOpen.{Node-F, Arg-F}
use Rattle.lfg_terms.specs.declared.node.Arg.TheOpen as layer
use Rattle.lfg_terms.specs.declared.node.Fact.{Fact}
use Rattle.lfg_terms.specs.Texts.{name_text, edge_text, IsPlaced}

-- ---- bytes with a meaning

abbrev pub hash : ℕ
hash = 35

abbrev pub opening : ℕ
opening = 40

abbrev pub closing : ℕ
closing = 41

abbrev pub comma : ℕ
comma = 44

abbrev pub slash : ℕ
slash = 47

-- ---- nodes

-- a path: each attribute behind a slash
abbrev pub path_text : List (List ℕ) → List ℕ
path_text [] = []
path_text (name ∷ names) = slash ∷ name_text name ++ path_text names

-- where the node first stands in the table, counted from 0
abbrev pub place_in : List Node → Node → Option ℕ
place_in table n = position (eq_by_cmp node_cmp n) table

-- what stands at this place of the table: a hash and its number, counted from 1
abbrev pub number_text : Option ℕ → List ℕ
number_text None = []
number_text (Some k) = hash ∷ decimal (k + 1)

-- a node: its edge and its path, or the number of a new node with this place
abbrev pub layer_text : Option ℕ → Node-F Arg Node → List ℕ
layer_text place (layer.At edge path) = edge_text edge ++ path_text path
layer_text place (layer.New rule var binding) = number_text place

abbrev pub node_text : List Node → Node → List ℕ
node_text table n = layer_text (place_in table n) (out-Node n)

-- ---- arguments and facts

-- an argument: an atom's name, or a node
abbrev pub arg_layer_text : List Node → Arg-F Arg Node → List ℕ
arg_layer_text table (layer.Atom name) = name_text name
arg_layer_text table (layer.Node node) = node_text table node

abbrev pub arg_text : List Node → Arg → List ℕ
arg_text table x = arg_layer_text table (out-Arg x)

-- the arguments with commas between
abbrev pub args_text : List Node → List Arg → List ℕ
args_text table args = join_with_byte comma (map (arg_text table) args)

-- a fact: its relation, and its arguments between brackets
abbrev pub fact_text : List Node → Fact → List ℕ
fact_text table fact = name_text fact.rel ++ opening ∷ args_text table fact.args ++ closing ∷ []

-- ---- a new node stands in the table

-- of the node at this place of the table: it is not new, or it has a place
abbrev pub IsListedLayer : Option ℕ → Node-F Arg Node → Type 0
IsListedLayer place (layer.At edge path) = Unit {0}
IsListedLayer place (layer.New rule var binding) = IsSome place

-- the node is not new, or it stands in the table
abbrev pub IsListed : List Node → Node → Type 0
IsListed table n = IsListedLayer (place_in table n) (out-Node n)

-- the argument is no new node, or it stands in the table
abbrev pub IsListedArgLayer : List Node → Arg-F Arg Node → Type 0
IsListedArgLayer table (layer.Atom name) = Unit {0}
IsListedArgLayer table (layer.Node node) = IsListed table node

abbrev pub IsListedArg : List Node → Arg → Type 0
IsListedArg table x = IsListedArgLayer table (out-Arg x)

-- each new node that is an argument of the fact stands in the table
abbrev pub IsListedFact : List Node → Fact → Type 0
IsListedFact table fact = All (IsListedArg table) fact.args

-- ---- what a fact is told by

-- the argument is not the empty atom
abbrev pub IsNamedLayer : Arg-F Arg Node → Type 0
IsNamedLayer (layer.Atom name) = name ≢ []
IsNamedLayer (layer.Node node) = Unit {0}

abbrev pub IsNamedArg : Arg → Type 0
IsNamedArg x = IsNamedLayer (out-Arg x)

-- no argument of the fact is the empty atom, whose text is that of no argument
abbrev pub IsNamed : Fact → Type 0
IsNamed fact = All IsNamedArg fact.args

-- the node's edge, if it has one, has places of 32 bits
abbrev pub IsPlacedLayer : Node-F Arg Node → Type 0
IsPlacedLayer (layer.At edge path) = IsPlaced edge
IsPlacedLayer (layer.New rule var binding) = Unit {0}

abbrev pub IsPlacedNode : Node → Type 0
IsPlacedNode n = IsPlacedLayer (out-Node n)

-- the argument is an atom, or such a node
abbrev pub IsPlacedArgLayer : Arg-F Arg Node → Type 0
IsPlacedArgLayer (layer.Atom name) = Unit {0}
IsPlacedArgLayer (layer.Node node) = IsPlacedNode node

abbrev pub IsPlacedArg : Arg → Type 0
IsPlacedArg x = IsPlacedArgLayer (out-Arg x)

-- the edges in the fact's arguments have places of 32 bits, as each value of the type has them
abbrev pub IsPlacedFact : Fact → Type 0
IsPlacedFact fact = All IsPlacedArg fact.args
