use Rattle.std.proofs.Common.{◌≡◌, ◌≤◌, length}
use Rattle.lfg_model.specs.SchemaNotation.{functions_at}
use Rattle.lfg_model.proofs.NestTurns.{in_front}
use Rattle.lfg_notation.proofs.forms.functions_at.Given as goal

abbrev pub invariant-loop-rest : goal.invariant-loop-rest
invariant-loop-rest l = record {
  read : in_front l.functions.items (functions_at l.rest) ≡ functions_at l.lexemes;
  shorter : length l.rest ≤ length l.lexemes;
}

abbrev pub decreases-loop-rest : goal.decreases-loop-rest
decreases-loop-rest l = length l.rest
