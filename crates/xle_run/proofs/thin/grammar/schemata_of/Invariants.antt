use Rattle.std.proofs.Common.{◌≡◌, map, take}
use Rattle.lfg_model.specs.Thin.{schema_of_equation}
use Rattle.xle_run.specs.Drafts.{equation_view}
use Rattle.xle_run.proofs.thin.grammar.schemata_of.Given as goal

abbrev pub invariant-loop-equation : goal.invariant-loop-equation
invariant-loop-equation l = l.schemata.items ≡ map schema_of_equation (map equation_view (take l.equation-index l.equations))
