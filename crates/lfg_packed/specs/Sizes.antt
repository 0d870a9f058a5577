-- How many literals an annotation gives over all its picks.
use Rattle.std.specs.Prelude.{ℕ, suc, ◌+◌, ◌*◌, Option, Some, None, List, [], ◌∷◌, length}
use Rattle.lfg_terms.specs.declared.grammar.Val.{Val}
use Rattle.lfg_terms.specs.declared.grammar.Val.TheVariants as val
use Rattle.lfg_model.specs.Terms.{Paths, Schema, define, constrain, exists, member, mark, either, maybe, call, Annotation, no_schema, and_schema, Branches, no_branch, or_branch}

-- how many strings a defining designator chooses from; the bare arrow has the empty one
abbrev pub string_count : Option Paths → ℕ
string_count None = 1
string_count (Some []) = 1
string_count (Some (p ∷ ps)) = length (p ∷ ps)

abbrev pub val_strings : Val Paths → ℕ
val_strings (val.Des d) = string_count d.path
val_strings (val.Atom a) = 1
val_strings (val.Form f) = 1

-- A defining equation or a membership counts once for each choice of its strings, a constraint or a
-- mark once, whatever branches and options it stands in.
abbrev mutual
  pub literal_size : Annotation → ℕ
  literal_size no_schema = 0
  literal_size (and_schema s rest) = schema_size s + literal_size rest

  pub schema_size : Schema → ℕ
  schema_size (define left right) = string_count left.path * val_strings right
  schema_size (constrain negated left right) = 1
  schema_size (exists negated left) = 1
  schema_size (member item set) = string_count item.path * string_count set.path
  schema_size (mark name) = 1
  schema_size (either branches) = branches_size branches
  schema_size (maybe inside) = literal_size inside
  schema_size (call name args) = 0

  pub branches_size : Branches → ℕ
  branches_size no_branch = 0
  branches_size (or_branch b bs) = literal_size b + branches_size bs
