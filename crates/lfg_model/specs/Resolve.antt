-- Resolving: the literals of an annotation, once each of its choices is made. Arrows stand for
-- nodes as in Kaplan and Bresnan 1982; the choices and their numbers are this project's own.
use Rattle.std.specs.Prelude.{ℕ, zero, suc, ◌+◌, Option, Some, None, List, [], ◌∷◌, ◌++◌, length, take, drop}
use Rattle.lfg_terms.specs.declared.node.Edge.{Edge}
use Rattle.lfg_terms.specs.declared.node.Node as node
use Rattle.lfg_terms.specs.declared.node.Node.{Node}
use Rattle.lfg_terms.specs.declared.grammar.Arrow.{Arrow}
use Rattle.lfg_terms.specs.declared.grammar.Arrow.TheVariants.{Up, Down}
use Rattle.lfg_terms.specs.declared.grammar.Des.{Des}
use Rattle.lfg_terms.specs.declared.grammar.Val.{Val}
use Rattle.lfg_terms.specs.declared.grammar.Val.TheVariants as val
use Rattle.lfg_terms.specs.declared.literal.Site.{Site}
use Rattle.lfg_terms.specs.declared.literal.Walk.{Walk}
use Rattle.lfg_terms.specs.declared.literal.Target.{Target}
use Rattle.lfg_terms.specs.declared.literal.Target.TheVariants as target
use Rattle.lfg_terms.specs.declared.literal.Check.TheVariants as check
use Rattle.lfg_terms.specs.declared.literal.Literal.{Literal}
use Rattle.lfg_terms.specs.declared.literal.Literal.TheVariants as literal
use Rattle.lfg_model.specs.Places.{path_places, schema_places, places, schema_forms, form_count}
use Rattle.lfg_model.specs.Terms.{Path, Paths, Schema, define, constrain, exists, member, mark, either, maybe, call, Annotation, no_schema, and_schema, Branches, no_branch, or_branch}

-- an instance of an annotation: the edges of its arrows, and the site that tells its forms apart
pub record Instance : Type 0 where
  pub up : Edge
  pub down : Edge
  pub site : Site

-- the edge of an arrow
abbrev pub edge_at : Instance → Arrow → Edge
edge_at instance Up = instance.up
edge_at instance Down = instance.down

-- the string with this number, from 0
abbrev pub string_at : Paths → ℕ → Path
string_at [] k = []
string_at (p ∷ ps) zero = p
string_at (p ∷ ps) (suc k) = string_at ps k

-- the string that a designator takes; the bare arrow has the empty one
abbrev pub string_taken : Option Paths → List ℕ → Path
string_taken None picks = []
string_taken (Some ps) [] = string_at ps 0
string_taken (Some ps) (k ∷ picks) = string_at ps k

-- a designator with its string is the node that the string leads to from the arrow's edge
abbrev pub node_of : Instance → Des Paths → List ℕ → Node
node_of instance d picks = node.At (edge_at instance d.arrow) (string_taken d.path picks)

-- a constraint keeps all strings; the bare arrow has the empty one
abbrev pub strings_of : Option Paths → Paths
strings_of None = [] ∷ []
strings_of (Some ps) = ps

-- a designator in a constraint is a walk from the arrow's node along its strings
abbrev pub walk_of : Instance → Des Paths → Walk
walk_of instance d = record { start = node.At (edge_at instance d.arrow) []; paths = strings_of d.path }

-- a constraint with a form stands in no loaded grammar; it is read as one with the form's name
abbrev pub target_of : Instance → Val Paths → Target
target_of instance (val.Des d) = target.Walk (walk_of instance d)
target_of instance (val.Atom a) = target.Atom a
target_of instance (val.Form f) = target.Atom f.name

-- a defining equation; `index` is the number of its form among those of the annotation, from 0
abbrev pub equation : Instance → Node → Val Paths → List ℕ → ℕ → Literal
equation instance n (val.Des d) picks index = literal.Equal n (node_of instance d picks)
equation instance n (val.Atom a) picks index = literal.Value n a
equation instance n (val.Form f) picks index = literal.Form n f instance.site index

-- the picks of what has these places, and those of what follows
abbrev pub own : List ℕ → List ℕ → List ℕ
own ns picks = take (length ns) picks

abbrev pub others : List ℕ → List ℕ → List ℕ
others ns picks = drop (length ns) picks

-- The literals of an annotation by its picks: each disjunction gives those of the branch that is
-- picked, each option those inside it for 0 and none for 1. `index` is the number of its first
-- form.
abbrev mutual
  pub resolved : Instance → Annotation → List ℕ → ℕ → List Literal
  resolved instance no_schema picks index = []
  resolved instance (and_schema s rest) picks index =
      schema_literals instance s (own (schema_places s) picks) index
      ++ resolved instance rest (others (schema_places s) picks) (index + schema_forms s)

  pub schema_literals : Instance → Schema → List ℕ → ℕ → List Literal
  schema_literals instance (define left right) picks index =
      equation instance (node_of instance left (own (path_places left.path) picks)) right (others (path_places left.path) picks) index ∷ []
  schema_literals instance (constrain negated left right) picks index =
      literal.Check (check.Same negated (walk_of instance left) (target_of instance right)) ∷ []
  schema_literals instance (exists negated left) picks index = literal.Check (check.Exists negated (walk_of instance left)) ∷ []
  schema_literals instance (member item set) picks index =
      literal.Member (node_of instance item (own (path_places item.path) picks)) (node_of instance set (others (path_places item.path) picks)) ∷ []
  schema_literals instance (mark name) picks index = literal.Mark name ∷ []
  schema_literals instance (either branches) [] index = []
  schema_literals instance (either branches) (k ∷ picks) index = branch_literals instance branches k picks index
  schema_literals instance (maybe inside) [] index = []
  schema_literals instance (maybe inside) (zero ∷ picks) index = resolved instance inside picks index
  schema_literals instance (maybe inside) (suc k ∷ picks) index = []
  schema_literals instance (call name args) picks index = []

  pub branch_literals : Instance → Branches → ℕ → List ℕ → ℕ → List Literal
  branch_literals instance no_branch k picks index = []
  branch_literals instance (or_branch b bs) zero picks index = resolved instance b (own (places b) picks) index
  branch_literals instance (or_branch b bs) (suc k) picks index =
      branch_literals instance bs k (others (places b) picks) (index + form_count b)
