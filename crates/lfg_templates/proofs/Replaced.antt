-- Lists of path expressions, each replaced.
use Rattle.std.proofs.Common.{◌≡◌, List, [], ◌∷◌, map, refl, ap, ◌∙◌}
use Rattle.lfg_terms.specs.declared.path_expr.PathExpr.{PathExpr}
use Rattle.lfg_model.specs.PathExpressions.{PathExpressions, and_path, expressions_from, expression_of, expressions_of}
use Rattle.lfg_model.specs.Templates.{Binding, path_with, paths_with}

paths_from : (b : Binding) (ps : List PathExpr) → expressions_from (map (λ p. path_with b (expression_of p)) ps) ≡ paths_with b (expressions_of ps)
paths_from b [] = refl
paths_from b (p ∷ ps) = ap (λ (es : PathExpressions). and_path (path_with b (expression_of p)) es) (paths_from b ps)

pub paths_done : (b : Binding) (ps qs : List PathExpr) → map expression_of qs ≡ map (λ p. path_with b (expression_of p)) ps → expressions_of qs ≡ paths_with b (expressions_of ps)
paths_done b ps qs e = ap expressions_from e ∙ paths_from b ps
