-- The least number of attributes of a string of a path expression.
use Rattle.std.specs.Prelude.{ℕ, ◌+◌, min}
use Rattle.lfg_model.specs.PathExpressions.{PathExpression, attribute, row, one_of, star, plus, PathExpressions, no_path, and_path}

-- the least number of attributes of a string, or 9 where no string has fewer than 9
abbrev mutual
  pub least : PathExpression → ℕ
  least (attribute name) = 1
  least (row parts) = least_of_row parts
  least (one_of branches) = least_of_branches branches
  least (star inside) = 0
  least (plus inside) = least inside

  -- that of a row: the sum
  pub least_of_row : PathExpressions → ℕ
  least_of_row no_path = 0
  least_of_row (and_path part parts) = min 9 (least part + least_of_row parts)

  -- that of some branches: the least
  pub least_of_branches : PathExpressions → ℕ
  least_of_branches no_path = 9
  least_of_branches (and_path branch branches) = min (least branch) (least_of_branches branches)
