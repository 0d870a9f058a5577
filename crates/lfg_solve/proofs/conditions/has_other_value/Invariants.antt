use Rattle.std.proofs.Common.{take}
use Rattle.lfg_solve.proofs.Finding.{NoneOf}
use Rattle.lfg_solve.specs.Found.{IsOther}
use Rattle.lfg_solve.proofs.conditions.has_other_value.Given as goal

abbrev pub invariant-loop-value : goal.invariant-loop-value
invariant-loop-value l = NoneOf (IsOther l.class l.constant) (take l.value-index l.values)
