-- The right sides of rules as they are written, as plain data.
use Rattle.std.specs.Prelude.{Bool, List, [], ◌∷◌, map, Option}
use Rattle.std.specs.Option.{option_map}
use Rattle.lfg_terms.specs.declared.grammar.Des.{Des}
use Rattle.lfg_terms.specs.declared.grammar.Val.{Val}
use Rattle.lfg_terms.specs.declared.grammar.Val.TheVariants as val
use Rattle.lfg_terms.specs.declared.grammar.Schema.{Schema}
use Rattle.lfg_terms.specs.declared.grammar.Schema.TheOpen.{Schema-F}
use Rattle.lfg_terms.specs.declared.grammar.Schema.TheOpen as written
use Rattle.lfg_terms.specs.declared.grammar.Schema.TheFolds.{fold-Schema}
use Rattle.lfg_terms.specs.declared.path_expr.PathExpr.{PathExpr}
use Rattle.lfg_terms.specs.declared.draft.Rhs.{Rhs}
use Rattle.lfg_terms.specs.declared.draft.Rhs.TheOpen.{Rhs-F}
use Rattle.lfg_terms.specs.declared.draft.Rhs.TheOpen as layer
use Rattle.lfg_terms.specs.declared.draft.Rhs.TheFolds.{fold-Rhs}
use Rattle.lfg_model.specs.Terms.{Name}
use Rattle.lfg_model.specs.PathExpressions.{PathExpression, expression_of}

-- ---- annotations as they are written

mutual
  -- a schema over path expressions, which can be a call of a template
  pub data DraftSchema : Type 0 where
    define : (left : Des PathExpression) → (right : Val PathExpression) → DraftSchema
    constrain : (negated : Bool) → (left : Des PathExpression) → (right : Val PathExpression) → DraftSchema
    exists : (negated : Bool) → (left : Des PathExpression) → DraftSchema
    member : (item set : Des PathExpression) → DraftSchema
    mark : Name → DraftSchema
    either : DraftBranches → DraftSchema
    maybe : DraftAnnotation → DraftSchema
    call : (name : Name) → (args : List Name) → DraftSchema

  -- a list of schemata
  pub data DraftAnnotation : Type 0 where
    no_schema : DraftAnnotation
    and_schema : DraftSchema → DraftAnnotation → DraftAnnotation

  -- the branches of a disjunction
  pub data DraftBranches : Type 0 where
    no_branch : DraftBranches
    or_branch : DraftAnnotation → DraftBranches → DraftBranches

-- the list of these schemata
abbrev pub draft_annotation_from : List DraftSchema → DraftAnnotation
draft_annotation_from [] = no_schema
draft_annotation_from (s ∷ ss) = and_schema s (draft_annotation_from ss)

-- these branches
abbrev pub draft_branches_from : List DraftAnnotation → DraftBranches
draft_branches_from [] = no_branch
draft_branches_from (b ∷ bs) = or_branch b (draft_branches_from bs)

-- a designator with its path in plain form
abbrev pub draft_des_of : Des PathExpr → Des PathExpression
draft_des_of d = record { arrow = d.arrow; path = option_map expression_of d.path }

-- the right side of an equation with its path in plain form
abbrev pub draft_val_of : Val PathExpr → Val PathExpression
draft_val_of (val.Des d) = val.Des (draft_des_of d)
draft_val_of (val.Atom name) = val.Atom name
draft_val_of (val.Form form) = val.Form form

-- one layer of a schema of the program, whose schemata inside are plain already
abbrev pub draft_schema_step : Schema-F PathExpr DraftSchema → DraftSchema
draft_schema_step (written.Define left right) = define (draft_des_of left) (draft_val_of right)
draft_schema_step (written.Constrain negated left right) = constrain negated (draft_des_of left) (draft_val_of right)
draft_schema_step (written.Exists negated left) = exists negated (draft_des_of left)
draft_schema_step (written.Member item set) = member (draft_des_of item) (draft_des_of set)
draft_schema_step (written.Mark name) = mark name
draft_schema_step (written.Either branches) = either (draft_branches_from (map (λ b. draft_annotation_from b.items) branches.items))
draft_schema_step (written.Maybe schemata) = maybe (draft_annotation_from schemata.items)
draft_schema_step (written.Call name args) = call name args

-- the plain form of a schema of the program
abbrev pub draft_schema_of : Schema PathExpr → DraftSchema
draft_schema_of = fold-Schema PathExpr DraftSchema draft_schema_step

-- the plain form of an annotation
abbrev pub draft_annotation_of : List (Schema PathExpr) → DraftAnnotation
draft_annotation_of schemata = draft_annotation_from (map draft_schema_of schemata)

-- ---- right sides

mutual
  -- The right side of a rule: an item with its annotation, if it has one; parts one after the
  -- other; one of several branches; what is inside or nothing; any number of times; or one or more
  -- times. An item of the category `e` is the empty item.
  pub data RightSide : Type 0 where
    item : (cat : Name) → (annotation : Option DraftAnnotation) → RightSide
    row : RightSides → RightSide
    one_of : RightSides → RightSide
    optional : RightSide → RightSide
    star : RightSide → RightSide
    plus : RightSide → RightSide

  -- a list of right sides
  pub data RightSides : Type 0 where
    no_side : RightSides
    and_side : RightSide → RightSides → RightSides

-- the list of these right sides
abbrev pub right_sides_from : List RightSide → RightSides
right_sides_from [] = no_side
right_sides_from (r ∷ rs) = and_side r (right_sides_from rs)

-- one layer of a right side of the program, whose parts are plain already
abbrev pub right_side_step : Rhs-F RightSide → RightSide
right_side_step (layer.Item cat schemata) = item cat (option_map (λ v. draft_annotation_of v.items) schemata)
right_side_step (layer.Row parts) = row (right_sides_from parts.items)
right_side_step (layer.OneOf branches) = one_of (right_sides_from branches.items)
right_side_step (layer.Maybe inside) = optional inside.value
right_side_step (layer.Star inside) = star inside.value
right_side_step (layer.Plus inside) = plus inside.value

-- the plain form of a right side of the program
abbrev pub right_side_of : Rhs → RightSide
right_side_of = fold-Rhs RightSide right_side_step

-- the plain forms of these right sides
abbrev pub right_sides_of : List Rhs → RightSides
right_sides_of sides = right_sides_from (map right_side_of sides)
