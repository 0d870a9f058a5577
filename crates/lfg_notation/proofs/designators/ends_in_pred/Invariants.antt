use Rattle.std.proofs.Common.{◌≡◌, false, map, drop}
use Rattle.lfg_model.specs.PathExpressions.{expression_of}
use Rattle.lfg_model.specs.SchemaNotation.{ends_in_pred}
use Rattle.lfg_notation.proofs.designators.ends_in_pred.Given as goal

abbrev pub invariant-loop-part : goal.invariant-loop-part
invariant-loop-part l = ends_in_pred l.ends (map expression_of (drop l.part-index l.parts)) ≡ ends_in_pred false (map expression_of l.parts)
