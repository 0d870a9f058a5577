use Rattle.std.proofs.Common.{take}
use Rattle.lfg_solve.proofs.Finding.{NoneOf}
use Rattle.lfg_solve.specs.Walking.{IsSharedAtom}
use Rattle.lfg_solve.proofs.checks.share_atom.Given as goal

abbrev pub invariant-loop-value : goal.invariant-loop-value
invariant-loop-value l = NoneOf (IsSharedAtom l.values l.one l.other) (take l.value-index l.values)
