-- The choices of an annotation: its numbered places, and picks that fit them (this project's own).
use Rattle.std.specs.Prelude.{ℕ, suc, ◌+◌, ◌<◌, Option, Some, None, List, [], ◌∷◌, ◌++◌, length}
use Rattle.lfg_terms.specs.declared.grammar.Val.{Val}
use Rattle.lfg_terms.specs.declared.grammar.Val.TheVariants as val
use Rattle.lfg_model.specs.Terms.{Paths, Schema, define, constrain, exists, member, mark, either, maybe, call, Annotation, no_schema, and_schema, Branches, no_branch, or_branch}

-- A path with several strings is a numbered place, with as many alternatives as strings. The bare
-- arrow and a path with one string are none.
abbrev pub path_places : Option Paths → List ℕ
path_places None = []
path_places (Some []) = []
path_places (Some (p ∷ [])) = []
path_places (Some (p ∷ q ∷ ps)) = length (p ∷ q ∷ ps) ∷ []

-- those of the right side of an equation
abbrev pub val_places : Val Paths → List ℕ
val_places (val.Des d) = path_places d.path
val_places (val.Atom a) = []
val_places (val.Form f) = []

-- how many branches a disjunction has
abbrev pub branch_count : Branches → ℕ
branch_count no_branch = 0
branch_count (or_branch b bs) = suc (branch_count bs)

-- How many alternatives each numbered place of an annotation has, in written order, a disjunction
-- or option before the places inside it. Places inside a branch that is not taken count too.
abbrev mutual
  pub places : Annotation → List ℕ
  places no_schema = []
  places (and_schema s rest) = schema_places s ++ places rest

  pub schema_places : Schema → List ℕ
  schema_places (define left right) = path_places left.path ++ val_places right
  schema_places (constrain negated left right) = []
  schema_places (exists negated left) = []
  schema_places (member item set) = path_places item.path ++ path_places set.path
  schema_places (mark name) = []
  schema_places (either branches) = branch_count branches ∷ branch_places branches
  schema_places (maybe inside) = 2 ∷ places inside
  schema_places (call name args) = []

  pub branch_places : Branches → List ℕ
  branch_places no_branch = []
  branch_places (or_branch b bs) = places b ++ branch_places bs

-- the picks take one alternative, counted from 0, at each numbered place
abbrev pub PicksFit : List ℕ → List ℕ → Type 0
PicksFit [] [] = Unit {0}
PicksFit [] (n ∷ ns) = ⊥
PicksFit (k ∷ picks) [] = ⊥
PicksFit (k ∷ picks) (n ∷ ns) = (k < n) × PicksFit picks ns

-- whether the right side of an equation is a semantic form, as a count
abbrev pub val_forms : Val Paths → ℕ
val_forms (val.Des d) = 0
val_forms (val.Atom a) = 0
val_forms (val.Form f) = 1

-- how many semantic forms an annotation has, in branches that are not taken too
abbrev mutual
  pub form_count : Annotation → ℕ
  form_count no_schema = 0
  form_count (and_schema s rest) = schema_forms s + form_count rest

  pub schema_forms : Schema → ℕ
  schema_forms (define left right) = val_forms right
  schema_forms (constrain negated left right) = 0
  schema_forms (exists negated left) = 0
  schema_forms (member item set) = 0
  schema_forms (mark name) = 0
  schema_forms (either branches) = branch_forms branches
  schema_forms (maybe inside) = form_count inside
  schema_forms (call name args) = 0

  pub branch_forms : Branches → ℕ
  branch_forms no_branch = 0
  branch_forms (or_branch b bs) = form_count b + branch_forms bs
