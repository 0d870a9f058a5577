-- Path expressions as plain data, and the strings of attributes that they stand for (functional
-- uncertainty, after Kaplan and Maxwell 1988).
use Rattle.std.specs.Prelude.{◌≡◌, ℕ, ◌≤◌, ◌<◌, ◌⊎◌, Bool, true, false, ◌&&◌, IsTrue, List, [], ◌∷◌, length, map}
use Rattle.lfg_terms.specs.declared.path_expr.PathExpr.{PathExpr}
use Rattle.lfg_terms.specs.declared.path_expr.PathExpr.TheOpen.{PathExpr-F}
use Rattle.lfg_terms.specs.declared.path_expr.PathExpr.TheOpen as layer
use Rattle.lfg_terms.specs.declared.path_expr.PathExpr.TheFolds.{fold-PathExpr}
use Rattle.lfg_model.specs.Lists.{In, Once}
pub use Rattle.lfg_model.specs.Sequences.{Joins, Repeats, no_more, once_more}
use Rattle.lfg_model.specs.Terms.{Name, Path}

-- ---- the plain form

mutual
  -- a path expression: an attribute, parts one after the other, one of several branches, what is
  -- inside any number of times, or one or more times
  pub data PathExpression : Type 0 where
    attribute : Name → PathExpression
    row : PathExpressions → PathExpression
    one_of : PathExpressions → PathExpression
    star : PathExpression → PathExpression
    plus : PathExpression → PathExpression

  -- a list of path expressions
  pub data PathExpressions : Type 0 where
    no_path : PathExpressions
    and_path : PathExpression → PathExpressions → PathExpressions

-- the list of these path expressions
abbrev pub expressions_from : List PathExpression → PathExpressions
expressions_from [] = no_path
expressions_from (e ∷ es) = and_path e (expressions_from es)

-- one layer of a path expression of the program, whose parts are plain already
abbrev pub expression_step : PathExpr-F PathExpression → PathExpression
expression_step (layer.Attr name) = attribute name
expression_step (layer.Row parts) = row (expressions_from parts.items)
expression_step (layer.OneOf branches) = one_of (expressions_from branches.items)
expression_step (layer.Star inside) = star inside.value
expression_step (layer.Plus inside) = plus inside.value

-- the plain form of a path expression of the program
abbrev pub expression_of : PathExpr → PathExpression
expression_of = fold-PathExpr PathExpression expression_step

-- the plain forms of these path expressions
abbrev pub expressions_of : List PathExpr → PathExpressions
expressions_of paths = expressions_from (map expression_of paths)

-- ---- the strings of a path expression

-- w is a string of the path expression, by cases on its form
abbrev mutual
  pub HasString : PathExpression → Path → Type 0
  HasString (attribute name) w = w ≡ name ∷ []
  HasString (row parts) w = HasRow parts w
  HasString (one_of branches) w = HasBranch branches w
  HasString (star inside) w = Repeats (HasString inside) w
  HasString (plus inside) w = Joins (HasString inside) (Repeats (HasString inside)) w

  -- w is made of a string of each part, one after the other
  pub HasRow : PathExpressions → Path → Type 0
  HasRow no_path w = w ≡ []
  HasRow (and_path part parts) w = Joins (HasString part) (HasRow parts) w

  -- w is a string of one of the branches
  pub HasBranch : PathExpressions → Path → Type 0
  HasBranch no_path w = ⊥
  HasBranch (and_path branch branches) w = HasString branch w ⊎ HasBranch branches w

-- ---- the strings that a grammar takes

-- the path expression is made of attributes and rows alone
abbrev mutual
  pub is_plain_row : PathExpression → Bool
  is_plain_row (attribute name) = true
  is_plain_row (row parts) = are_plain_rows parts
  is_plain_row (one_of branches) = false
  is_plain_row (star inside) = false
  is_plain_row (plus inside) = false

  pub are_plain_rows : PathExpressions → Bool
  are_plain_rows no_path = true
  are_plain_rows (and_path part parts) = is_plain_row part && are_plain_rows parts

-- w is a string of the path expression with at most this number of attributes
pub record HasShort (path : PathExpression) (depth : ℕ) (w : Path) : Type 0 where
  pub has : HasString path w
  pub short : length w ≤ depth

-- w is one of the strings that the path expression stands for at this depth: any string of a path
-- expression of attributes and rows alone, and of any other one a string of at most this number of
-- attributes
pub record Strings (path : PathExpression) (depth : ℕ) (w : Path) : Type 0 where
  pub has : HasString path w
  pub counts : IsTrue (is_plain_row path) ⊎ (length w ≤ depth)

-- there are more than this number of strings with P
pub record MoreThan (limit : ℕ) (P : Path → Type 0) : Type 0 where
  pub strings : List Path
  pub different : Once strings
  pub enough : limit < length strings
  pub each : (w : Path) → In w strings → P w
