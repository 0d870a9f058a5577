-- The facts of a solution by the numbers of its classes, in the order in which they are written.
use Rattle.std.specs.Prelude.{ℕ, suc, ◌==◌, if◌then◌else◌, Option, Some, None, List, [], ◌∷◌, ◌++◌, find, slice_get, codes, decimal}
use Rattle.std.specs.List.{flat_map}
use Rattle.lfg_terms.specs.declared.node.Node.{Node}
use Rattle.lfg_terms.specs.declared.node.Arg as arg
use Rattle.lfg_terms.specs.declared.node.Arg.{Arg}
use Rattle.lfg_terms.specs.declared.node.Fact.{Fact}
use Rattle.lfg_model.specs.declared.constant.Constant.{Constant}
use Rattle.lfg_model.specs.declared.constant.Constant.TheVariants as constant
use Rattle.lfg_model.specs.Terms.{Name, same_name}
use Rattle.lfg_model.specs.Solve.{pred}
use Rattle.lfg_model.specs.Readings.{has_attribute}
use Rattle.lfg_solve.specs.declared.classes.Arc.{Arc}
use Rattle.lfg_solve.specs.declared.solution.Value.{Value}
use Rattle.lfg_solve.specs.declared.solution.Membership.{Membership}

-- what a class with the constant is called: the atom, or the name of the form
abbrev pub constant_name : Constant → Name
constant_name (constant.Atom a) = a
constant_name (constant.Form form site index) = form.name

-- the first value of the class
abbrev pub first_value : List Value → ℕ → Option Value
first_value values class = find (λ v. v.class == class) values

-- the name by the value of a class, or else by its node
abbrev pub name_by : Option Value → Option Node → Option Arg
name_by (Some v) n = Some (arg.Atom (constant_name v.constant))
name_by None (Some n) = Some (arg.Node n)
name_by None None = None

-- What the class is called, if there is a value of it or a node with its number.
abbrev pub name_in : List Value → List Node → ℕ → Option Arg
name_in values nodes class = name_by (first_value values class) (slice_get nodes class)

-- the fact that the relation holds between two classes, if they have names
abbrev pub pair_facts : Name → Option Arg → Option Arg → List Fact
pair_facts relation None second = []
pair_facts relation (Some c) None = []
pair_facts relation (Some c) (Some u) = has_attribute relation c u ∷ []

-- the fact that the relation holds between a class, a number and a function
abbrev pub function_fact : Name → Arg → ℕ → Name → Fact
function_fact relation c k g = record { rel = relation; args = c ∷ arg.Atom (decimal k) ∷ arg.Atom g ∷ [] }

-- the functions of a class by the relation, with their numbers behind k
abbrev pub function_facts : Name → Arg → ℕ → List Name → List Fact
function_facts relation c k [] = []
function_facts relation c k (g ∷ gs) = function_fact relation c (suc k) g ∷ function_facts relation c (suc k) gs

-- the functions that the constant names, said of a class
abbrev pub constant_facts : Arg → Constant → List Fact
constant_facts c (constant.Atom a) = []
constant_facts c (constant.Form form site index) =
    function_facts (codes "arg") c 0 form.inner ++ function_facts (codes "nonarg") c 0 form.outer

-- those that the value names, if it is one of the class `target`
abbrev pub value_facts : Arg → ℕ → Value → List Fact
value_facts c target v = if v.class == target then constant_facts c v.constant else []

-- the functions that the values of the class `target` name, said of a class, if it has a name
abbrev pub values_facts : Option Arg → List Value → ℕ → List Fact
values_facts None values target = []
values_facts (Some c) values target = flat_map (value_facts c target) values

-- where the arc is PRED: the functions that its target names, said of the class that it leaves
abbrev pub pred_facts : List Value → List Node → Arc → List Fact
pred_facts values nodes arc = if same_name arc.attribute pred then values_facts (name_in values nodes arc.from) values arc.to else []

-- the facts of an arc
abbrev pub arc_facts : List Value → List Node → Arc → List Fact
arc_facts values nodes arc =
    pair_facts arc.attribute (name_in values nodes arc.from) (name_in values nodes arc.to) ++ pred_facts values nodes arc

-- the fact of a member
abbrev pub member_facts : List Value → List Node → Membership → List Fact
member_facts values nodes member = pair_facts (codes "in_set") (name_in values nodes member.item) (name_in values nodes member.set)

-- the facts of all arcs and members
abbrev pub numbered_facts : List Value → List Node → List Arc → List Membership → List Fact
numbered_facts values nodes arcs members = flat_map (arc_facts values nodes) arcs ++ flat_map (member_facts values nodes) members
