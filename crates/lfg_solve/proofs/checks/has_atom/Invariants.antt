use Rattle.std.proofs.Common.{take}
use Rattle.lfg_solve.proofs.Finding.{NoneOf}
use Rattle.lfg_solve.specs.Walking.{IsAtomOf}
use Rattle.lfg_solve.proofs.checks.has_atom.Given as goal

abbrev pub invariant-loop-value : goal.invariant-loop-value
invariant-loop-value l = NoneOf (IsAtomOf l.class l.atom) (take l.value-index l.values)
