use Rattle.std.proofs.Common.{take}
use Rattle.lfg_solve.proofs.Finding.{NoneOf}
use Rattle.lfg_solve.specs.Found.{StandsBeside}
use Rattle.lfg_solve.proofs.conditions.has_clashing.Given as goal

abbrev pub invariant-loop-value : goal.invariant-loop-value
invariant-loop-value l = NoneOf (StandsBeside l.values l.arcs l.members) (take l.value-index l.values)
