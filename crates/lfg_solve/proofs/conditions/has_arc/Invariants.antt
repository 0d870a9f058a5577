use Rattle.std.proofs.Common.{take}
use Rattle.lfg_solve.proofs.Finding.{NoneOf}
use Rattle.lfg_solve.specs.Found.{Leaves}
use Rattle.lfg_solve.proofs.conditions.has_arc.Given as goal

abbrev pub invariant-loop-arc : goal.invariant-loop-arc
invariant-loop-arc l = NoneOf (Leaves l.class) (take l.arc-index l.arcs)
