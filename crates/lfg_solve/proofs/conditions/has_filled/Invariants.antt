use Rattle.std.proofs.Common.{take}
use Rattle.lfg_solve.proofs.Finding.{NoneOf}
use Rattle.lfg_solve.specs.Found.{IsFilledBy}
use Rattle.lfg_solve.proofs.conditions.has_filled.Given as goal

abbrev pub invariant-loop-arc : goal.invariant-loop-arc
invariant-loop-arc l = NoneOf (IsFilledBy l.arcs l.members l.class l.function) (take l.arc-index l.arcs)
