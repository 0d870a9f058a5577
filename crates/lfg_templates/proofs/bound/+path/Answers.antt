use Rattle.std.proofs.Common.{◌≡◌, arith, map, subst, List}
use Rattle.std.proofs.lemmas.List.{take_all}
use Rattle.lfg_terms.specs.declared.path_expr.PathExpr.{PathExpr}
use Rattle.lfg_model.specs.PathExpressions.{expression_of}
use Rattle.lfg_model.specs.Templates.{path_with}
use Rattle.lfg_templates.specs.Views.{binding_of}
use Rattle.lfg_templates.proofs.Replaced.{paths_done}
use Rattle.lfg_templates.proofs.bound.+path.Goals as goal

pub paths_with-returns : goal.paths_with-returns
paths_with-returns t c =
    let whole = take_all c.loop-path.path-index c.args.paths.now (omega arith) in
    paths_done (binding_of c.args.bound.now) c.args.paths.now c.loop-path.out.items
    (subst (λ (ps : List PathExpr). map expression_of c.loop-path.out.items ≡ map (λ p. path_with (binding_of c.args.bound.now) (expression_of p)) ps) whole c.loop-path.invariant)
