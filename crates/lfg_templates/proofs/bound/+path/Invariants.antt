use Rattle.std.proofs.Common.{◌≡◌, map, take}
use Rattle.lfg_model.specs.PathExpressions.{expression_of}
use Rattle.lfg_model.specs.Templates.{path_with}
use Rattle.lfg_templates.specs.Views.{binding_of}
use Rattle.lfg_templates.proofs.bound.+path.Given as goal

abbrev pub invariant-paths_with-loop-path : goal.invariant-paths_with-loop-path
invariant-paths_with-loop-path l = map expression_of l.out.items ≡ map (λ p. path_with (binding_of l.bound) (expression_of p)) (take l.path-index l.paths)
