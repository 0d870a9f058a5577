-- Picks that fit an annotation: the first alternative everywhere.
use Rattle.std.proofs.Common.{ℕ, List, [], ◌∷◌, ◌++◌, arith, Option, Some, None}
use Rattle.lfg_terms.specs.declared.grammar.Val.{Val}
use Rattle.lfg_terms.specs.declared.grammar.Val.TheVariants as val
use Rattle.lfg_model.specs.Terms.{Paths, annotation_of, Schema, define, constrain, exists, member, mark, either, maybe, call, Annotation, no_schema, and_schema, Branches, no_branch, or_branch}
use Rattle.lfg_model.specs.Places.{path_places, val_places, places, schema_places, branch_places, PicksFit}
use Rattle.lfg_model.specs.Fillable.{HasBranches, SchemaHasBranches, BranchesHaveBranches, FillableWithoutEmptyDisjunctions}

-- picks for these places
abbrev Picks : List ℕ → Type 0
Picks ns = (picks : List ℕ) × PicksFit picks ns

PicksFit-append : (ps ms qs ns : List ℕ) → PicksFit ps ms → PicksFit qs ns → PicksFit (ps ++ qs) (ms ++ ns)
PicksFit-append [] [] qs ns a b = b
PicksFit-append [] (m ∷ ms) qs ns a b = absurd a
PicksFit-append (p ∷ ps) [] qs ns a b = absurd a
PicksFit-append (p ∷ ps) (m ∷ ms) qs ns a b = (a.0, PicksFit-append ps ms qs ns a.1 b)

both : (ms ns : List ℕ) → Picks ms → Picks ns → Picks (ms ++ ns)
both ms ns a b = (a.0 ++ b.0, PicksFit-append a.0 ms b.0 ns a.1 b.1)

path_picks : (path : Option Paths) → Picks (path_places path)
path_picks None = ([], tt)
path_picks (Some []) = ([], tt)
path_picks (Some (p ∷ [])) = ([], tt)
path_picks (Some (p ∷ q ∷ ps)) = (0 ∷ [], (omega arith, tt))

val_picks : (right : Val Paths) → Picks (val_places right)
val_picks (val.Des d) = path_picks d.path
val_picks (val.Atom a) = ([], tt)
val_picks (val.Form f) = ([], tt)

mutual
  pub some_picks : (a : Annotation) → HasBranches a → Picks (places a)
  some_picks no_schema h = ([], tt)
  some_picks (and_schema schema rest) h = both (schema_places schema) (places rest) (schema_picks schema h.0) (some_picks rest h.1)

  schema_picks : (schema : Schema) → SchemaHasBranches schema → Picks (schema_places schema)
  schema_picks (define left right) h = both (path_places left.path) (val_places right) (path_picks left.path) (val_picks right)
  schema_picks (constrain negated left right) h = ([], tt)
  schema_picks (exists negated left) h = ([], tt)
  schema_picks (member item set) h = both (path_places item.path) (path_places set.path) (path_picks item.path) (path_picks set.path)
  schema_picks (mark name) h = ([], tt)
  schema_picks (either branches) h = let r = branches_picks branches h.1 in (0 ∷ r.0, (omega (arith, h.0), r.1))
  schema_picks (maybe inside) h = let r = some_picks inside h in (0 ∷ r.0, (omega arith, r.1))
  schema_picks (call name args) h = ([], tt)

  branches_picks : (branches : Branches) → BranchesHaveBranches branches → Picks (branch_places branches)
  branches_picks no_branch h = ([], tt)
  branches_picks (or_branch branch rest) h = both (places branch) (branch_places rest) (some_picks branch h.0) (branches_picks rest h.1)

pub fillable_without_empty_disjunctions : FillableWithoutEmptyDisjunctions
fillable_without_empty_disjunctions g h = record {
  items = λ cat rule occ item is listed. some_picks (annotation_of item.schemata) (h.items cat rule occ item is listed);
  entries = λ k lex listed. some_picks (annotation_of lex.schemata) (h.entries k lex listed);
}
