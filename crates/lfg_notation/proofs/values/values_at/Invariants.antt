use Rattle.std.proofs.Common.{◌≡◌, ◌≤◌, ◌++◌, length}
use Rattle.lfg_model.specs.SchemaNotation.{values_at}
use Rattle.lfg_notation.specs.Views.{named}
use Rattle.lfg_notation.proofs.values.values_at.Given as goal

abbrev pub invariant-loop-rest : goal.invariant-loop-rest
invariant-loop-rest l = record {
  read : named (l.values.items ++ (values_at l.rest).0) (values_at l.rest).1 ≡ values_at l.lexemes;
  shorter : length l.rest ≤ length l.lexemes;
}

abbrev pub decreases-loop-rest : goal.decreases-loop-rest
decreases-loop-rest l = length l.rest
