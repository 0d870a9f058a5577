use Rattle.std.proofs.Common.{take}
use Rattle.lfg_solve.proofs.Finding.{NoneOf}
use Rattle.lfg_solve.specs.Found.{IsGovernedBy}
use Rattle.lfg_solve.proofs.conditions.is_governed.Given as goal

abbrev pub invariant-loop-arc : goal.invariant-loop-arc
invariant-loop-arc l = NoneOf (IsGovernedBy l.values l.class l.function) (take l.arc-index l.arcs)
