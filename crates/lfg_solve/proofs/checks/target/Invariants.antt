use Rattle.std.proofs.Common.{take}
use Rattle.lfg_solve.specs.Found.{LeadsBy}
use Rattle.lfg_solve.proofs.Finding.{NoneOf}
use Rattle.lfg_solve.proofs.checks.target.Given as goal

abbrev pub invariant-loop-arc : goal.invariant-loop-arc
invariant-loop-arc l = NoneOf (LeadsBy l.class l.attribute) (take l.arc-index l.arcs)
