-- What a list of literals states: its nodes, arcs, given equations, constants, members and
-- constraints.
use Rattle.std.specs.Prelude.{List, [], ◌∷◌, ◌++◌, map}
use Rattle.std.specs.List.{flat_map}
use Rattle.lfg_terms.specs.declared.node.Node as node
use Rattle.lfg_terms.specs.declared.node.Node.{Node}
use Rattle.lfg_terms.specs.declared.literal.Target.{Target}
use Rattle.lfg_terms.specs.declared.literal.Target.TheVariants as target
use Rattle.lfg_terms.specs.declared.literal.Check.{Check}
use Rattle.lfg_terms.specs.declared.literal.Check.TheVariants as check
use Rattle.lfg_terms.specs.declared.literal.Literal.{Literal}
use Rattle.lfg_terms.specs.declared.literal.Literal.TheVariants as literal
use Rattle.lfg_model.specs.declared.constant.Constant.{Constant}
use Rattle.lfg_model.specs.declared.constant.Constant.TheVariants as constant
use Rattle.lfg_model.specs.Terms.{Name, Path}

-- the prefixes of a path, the shortest first, with the empty one and the path itself
abbrev pub prefixes : Path → List Path
prefixes [] = [] ∷ []
prefixes (a ∷ p) = [] ∷ map (λ q. a ∷ q) (prefixes p)

-- each attribute of a path with what stands before it
abbrev pub steps : Path → List (Path × Name)
steps [] = []
steps (a ∷ p) = ([], a) ∷ map (λ s. (a ∷ s.0, s.1)) (steps p)

-- a node with all nodes on the way to it from its edge
abbrev pub with_prefixes : Node → List Node
with_prefixes (node.At e p) = map (λ q. node.At e q) (prefixes p)
with_prefixes n = n ∷ []

-- the arcs on the way to a node
abbrev pub arcs_to : Node → List (Node × Name × Node)
arcs_to (node.At e p) = map (λ s. (node.At e s.0, s.1, node.At e (s.0 ++ s.1 ∷ []))) (steps p)
arcs_to n = []

-- the nodes that a defining literal names
abbrev pub named : Literal → List Node
named (literal.Equal a b) = a ∷ b ∷ []
named (literal.Value n a) = n ∷ []
named (literal.Form n f s i) = n ∷ []
named (literal.Member m s) = m ∷ s ∷ []
named (literal.Check c) = []
named (literal.Mark m) = []

abbrev pub target_starts : Target → List Node
target_starts (target.Atom a) = []
target_starts (target.Walk w) = w.start ∷ []

-- the nodes from which a constraint walks
abbrev pub starts : Check → List Node
starts (check.Same negated left right) = left.start ∷ target_starts right
starts (check.Exists negated left) = left.start ∷ []

-- what one literal gives
abbrev pub checks_of : Literal → List Check
checks_of (literal.Check c) = c ∷ []
checks_of _ = []

abbrev pub given_of : Literal → List (Node × Node)
given_of (literal.Equal a b) = (a, b) ∷ []
given_of _ = []

abbrev pub values_of : Literal → List (Node × Constant)
values_of (literal.Value n a) = (n, constant.Atom a) ∷ []
values_of (literal.Form n f s i) = (n, constant.Form f s i) ∷ []
values_of _ = []

abbrev pub members_of : Literal → List (Node × Node)
members_of (literal.Member m s) = (m, s) ∷ []
members_of _ = []

-- The nodes, arcs, given equations, constants, members and constraints of a list of literals. A
-- member stands before its set.
abbrev pub nodes : List Literal → List Node
nodes ls = flat_map (λ l. flat_map with_prefixes (named l) ++ flat_map starts (checks_of l)) ls

abbrev pub arcs : List Literal → List (Node × Name × Node)
arcs ls = flat_map (λ l. flat_map arcs_to (named l)) ls

abbrev pub given : List Literal → List (Node × Node)
given ls = flat_map given_of ls

abbrev pub values : List Literal → List (Node × Constant)
values ls = flat_map values_of ls

abbrev pub members : List Literal → List (Node × Node)
members ls = flat_map members_of ls

abbrev pub checks : List Literal → List Check
checks ls = flat_map checks_of ls
