-- The one string of a path expression of attributes and rows alone.
use Rattle.lfg_model.specs.Terms.{Path}
use Rattle.std.specs.Prelude.{[], ◌∷◌, ◌++◌}
use Rattle.lfg_model.specs.PathExpressions.{PathExpression, attribute, row, one_of, star, plus, PathExpressions, no_path, and_path}

-- the attributes in written order; what has branches or repeats counts for nothing
abbrev mutual
  pub row_string : PathExpression → Path
  row_string (attribute name) = name ∷ []
  row_string (row parts) = rows_string parts
  row_string (one_of branches) = []
  row_string (star inside) = []
  row_string (plus inside) = []

  pub rows_string : PathExpressions → Path
  rows_string no_path = []
  rows_string (and_path part parts) = row_string part ++ rows_string parts
