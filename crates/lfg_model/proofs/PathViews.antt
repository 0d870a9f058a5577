-- The plain form of each variant of a path expression.
use Rattle.std.proofs.Common.{◌≡◌, sym, ap, ◌∙◌}
use Rattle.lfg_terms.specs.declared.path_expr.PathExpr.TheVariants.{Attr, Row, OneOf, Star, Plus, rolls-Attr, rolls-Row, rolls-OneOf, rolls-Star, rolls-Plus}
use Rattle.lfg_terms.specs.declared.path_expr.PathExpr.TheOpen as layer
use Rattle.lfg_terms.specs.declared.path_expr.PathExpr.TheFolds.{fold-roll-PathExpr}
use Rattle.lfg_model.specs.Terms.{Name}
use Rattle.lfg_model.specs.PathExpressions.{PathExpression, attribute, row, one_of, star, plus, expression_step, expression_of, expressions_of}

pub view_attribute : (name : Name) → expression_of (Attr name) ≡ attribute name
view_attribute name = ap expression_of (sym (rolls-Attr name)) ∙ fold-roll-PathExpr PathExpression expression_step (layer.Attr name)

pub view_row : (parts : _) → expression_of (Row parts) ≡ row (expressions_of parts.items)
view_row parts = ap expression_of (sym (rolls-Row parts)) ∙ fold-roll-PathExpr PathExpression expression_step (layer.Row parts)

pub view_one_of : (branches : _) → expression_of (OneOf branches) ≡ one_of (expressions_of branches.items)
view_one_of branches = ap expression_of (sym (rolls-OneOf branches)) ∙ fold-roll-PathExpr PathExpression expression_step (layer.OneOf branches)

pub view_star : (inside : _) → expression_of (Star inside) ≡ star (expression_of inside.value)
view_star inside = ap expression_of (sym (rolls-Star inside)) ∙ fold-roll-PathExpr PathExpression expression_step (layer.Star inside)

pub view_plus : (inside : _) → expression_of (Plus inside) ≡ plus (expression_of inside.value)
view_plus inside = ap expression_of (sym (rolls-Plus inside)) ∙ fold-roll-PathExpr PathExpression expression_step (layer.Plus inside)
