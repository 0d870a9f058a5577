-- Resolving an annotation to schemata without disjunctions and options, and the links of a daughter
-- to its mother. That each daughter is linked is this project's own condition.
use Rattle.std.specs.Prelude.{◌≡◌, ◌⊎◌, Bool, Option, Some, None, List, [], ◌∷◌, ◌++◌}
use Rattle.lfg_terms.specs.declared.grammar.Arrow.TheVariants.{Up, Down}
use Rattle.lfg_terms.specs.declared.grammar.Des.{Des}
use Rattle.lfg_terms.specs.declared.grammar.Val.{Val}
use Rattle.lfg_terms.specs.declared.grammar.Val.TheVariants as val
use Rattle.lfg_model.specs.Lists.{In}
use Rattle.lfg_model.specs.Terms.{Name, Paths, Schema, define, constrain, exists, member, mark, either, maybe, Annotation, no_schema, and_schema, Branches, no_branch, or_branch}

-- ---- resolving

-- the annotation is one of the branches
pub data IsBranch (a : Annotation) : Branches → Type 0 where
  this_branch : {bs : Branches} → IsBranch a (or_branch a bs)
  other_branch : {b : Annotation} {bs : Branches} → IsBranch a bs → IsBranch a (or_branch b bs)

mutual
  -- in one way of resolving the annotation these schemata are reached: of a disjunction one branch
  -- is taken, and an option is taken or left
  pub data Reaches : Annotation → List Schema → Type 0 where
    nothing : Reaches no_schema []
    one_more : {s : Schema} {a : Annotation} {xs ys : List Schema} → SchemaReaches s xs → Reaches a ys → Reaches (and_schema s a) (xs ++ ys)

  -- the same of one schema
  pub data SchemaReaches : Schema → List Schema → Type 0 where
    defining : {left : Des Paths} {right : Val Paths} → SchemaReaches (define left right) (define left right ∷ [])
    constraining : {negated : Bool} {left : Des Paths} {right : Val Paths} → SchemaReaches (constrain negated left right) (constrain negated left right ∷ [])
    existential : {negated : Bool} {left : Des Paths} → SchemaReaches (exists negated left) (exists negated left ∷ [])
    membership : {item set : Des Paths} → SchemaReaches (member item set) (member item set ∷ [])
    marked : {name : Name} → SchemaReaches (mark name) (mark name ∷ [])
    disjunction : {a : Annotation} {branches : Branches} {xs : List Schema} → IsBranch a branches → Reaches a xs → SchemaReaches (either branches) xs
    taken : {inside : Annotation} {xs : List Schema} → Reaches inside xs → SchemaReaches (maybe inside) xs
    left_out : {inside : Annotation} → SchemaReaches (maybe inside) []

-- ---- links

-- the designator is the bare `!`
pub record IsDaughter (d : Des Paths) : Type 0 where
  pub arrow : d.arrow ≡ Down
  pub bare : d.path ≡ None

-- the designator is `^`, or a path from there
abbrev pub IsMother : Des Paths → Type 0
IsMother d = d.arrow ≡ Up

-- The schema links the daughter to its mother: an equation of `!` with `^` or with a path from
-- there, either side first, or a membership of `!` in one of these.
pub data IsLink : Schema → Type 0 where
  up_first : {up down : Des Paths} → IsMother up → IsDaughter down → IsLink (define up (val.Des down))
  down_first : {up down : Des Paths} → IsDaughter down → IsMother up → IsLink (define down (val.Des up))
  in_set_of : {up down : Des Paths} → IsDaughter down → IsMother up → IsLink (member down up)

-- one of the schemata is a link
pub record HasLink (xs : List Schema) : Type 0 where
  pub schema : Schema
  pub reached : In schema xs
  pub links : IsLink schema

-- in some way of resolving the annotation no link is reached
pub record CanBeUnlinked (a : Annotation) : Type 0 where
  pub schemata : List Schema
  pub reached : Reaches a schemata
  pub unlinked : ¬ HasLink schemata
