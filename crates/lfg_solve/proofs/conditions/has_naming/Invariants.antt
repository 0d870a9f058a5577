use Rattle.std.proofs.Common.{take}
use Rattle.lfg_solve.proofs.Finding.{NoneOf}
use Rattle.lfg_solve.specs.Found.{IsNaming}
use Rattle.lfg_solve.proofs.conditions.has_naming.Given as goal

abbrev pub invariant-loop-value : goal.invariant-loop-value
invariant-loop-value l = NoneOf (IsNaming l.target l.function) (take l.value-index l.values)
