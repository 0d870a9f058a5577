-- What nests in the terms, as plain data that definitions walk: annotations and derivations.
-- Each comes with the view from the type of the program.
use Rattle.std.specs.Prelude.{ℕ, Bool, ◌==◌, List, [], ◌∷◌}
use Rattle.std.specs.Cmp.Lexicographic.{pointwise}
use Rattle.std.specs.declared.vec.Vec.{Vec}
use Rattle.std.specs.Global.{Global}
use Rattle.lfg_terms.specs.declared.grammar.Des.{Des}
use Rattle.lfg_terms.specs.declared.grammar.Val.{Val}
use Rattle.lfg_terms.specs.declared.grammar.Schema as declared
use Rattle.lfg_terms.specs.declared.grammar.Schema.{Row_of-Schema, end_of-Schema, more_of-Schema, Row_of-Schema-Either-0-1, end_of-Schema-Either-0-1, more_of-Schema-Either-0-1}
use Rattle.lfg_terms.specs.declared.tree.Derivation.{Derivation, Leaf, Inner', None', Some', Row_of-Part, end_of-Part, more_of-Part}

-- a category, an attribute, an atom, a relation or a word form, as its bytes
abbrev pub Name : Type 0
Name = List ℕ

-- two names have the same bytes
abbrev pub same_name : Name → Name → Bool
same_name = pointwise ◌==◌

-- a row of attributes
abbrev pub Path : Type 0
Path = List Name

-- the strings of a path expression
abbrev pub Paths : Type 0
Paths = List Path

mutual
  -- A functional schema (Kaplan and Bresnan 1982), with a disjunction as `either` and an option as
  -- `maybe`. A call of a template stands in no loaded grammar.
  pub data Schema : Type 0 where
    define : (left : Des Paths) → (right : Val Paths) → Schema
    constrain : (negated : Bool) → (left : Des Paths) → (right : Val Paths) → Schema
    exists : (negated : Bool) → (left : Des Paths) → Schema
    member : (item set : Des Paths) → Schema
    mark : Name → Schema
    either : Branches → Schema
    maybe : Annotation → Schema
    call : (name : Name) → (args : List Name) → Schema

  -- a list of schemata
  pub data Annotation : Type 0 where
    no_schema : Annotation
    and_schema : Schema → Annotation → Annotation

  -- the branches of a disjunction
  pub data Branches : Type 0 where
    no_branch : Branches
    or_branch : Annotation → Branches → Branches

-- the plain form of a schema, of the schemata inside an option, and of the branches of a disjunction
abbrev mutual
  pub schema_of : declared.Schema Paths → Schema
  schema_of (declared.Define left right) = define left right
  schema_of (declared.Constrain negated left right) = constrain negated left right
  schema_of (declared.Exists negated left) = exists negated left
  schema_of (declared.Member item set) = member item set
  schema_of (declared.Mark name) = mark name
  schema_of (declared.Either' shape branches) = either (branches_of branches)
  schema_of (declared.Maybe' shape schemata) = maybe (row_annotation schemata)
  schema_of (declared.Call name args) = call name args

  pub row_annotation : {m : _} → Row_of-Schema Paths m → Annotation
  row_annotation end_of-Schema = no_schema
  row_annotation (more_of-Schema schema rest) = and_schema (schema_of schema) (row_annotation rest)

  pub branches_of : {m : _} → Row_of-Schema-Either-0-1 Paths m → Branches
  branches_of end_of-Schema-Either-0-1 = no_branch
  branches_of (more_of-Schema-Either-0-1 shape schemata rest) = or_branch (row_annotation schemata) (branches_of rest)

-- the annotation that a rule's item or a lexicon entry has
abbrev pub annotation_of : List (declared.Schema Paths) → Annotation
annotation_of [] = no_schema
annotation_of (schema ∷ rest) = and_schema (schema_of schema) (annotation_of rest)

-- the branches of a disjunction that a vector holds
abbrev pub branches_from : List (Vec (declared.Schema Paths) Global) → Branches
branches_from [] = no_branch
branches_from (branch ∷ rest) = or_branch (annotation_of branch.items) (branches_from rest)

mutual
  -- A derivation: a c-structure (Kaplan and Bresnan 1982), with the lexicon entry of each word and
  -- the alternatives that each annotation takes. Entries are counted from 0.
  pub data Tree : Type 0 where
    leaf : (cat : Name) (entry : ℕ) (picks : List ℕ) → Tree
    inner : (cat : Name) → Parts → Tree

  -- the daughters, and the empty items between them, by the numbers of the rule's items from 1
  pub data Parts : Type 0 where
    no_part : Parts
    empty : (occ : ℕ) (picks : List ℕ) → Parts → Parts
    daughter : (occ : ℕ) (picks : List ℕ) → Tree → Parts → Parts

-- the plain form of a derivation, and of its parts
abbrev mutual
  pub tree_of : Derivation → Tree
  tree_of (Leaf cat entry picks) = leaf cat entry picks.items
  tree_of (Inner' cat shape parts) = inner cat (parts_of parts)

  pub parts_of : {m : _} → Row_of-Part m → Parts
  parts_of end_of-Part = no_part
  parts_of (more_of-Part occ picks None' rest) = empty occ picks.items (parts_of rest)
  parts_of (more_of-Part occ picks (Some' held below) rest) = daughter occ picks.items (tree_of below) (parts_of rest)
