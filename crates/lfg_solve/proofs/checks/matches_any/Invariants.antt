use Rattle.std.proofs.Common.{take}
use Rattle.lfg_solve.proofs.Finding.{NoneOf}
use Rattle.lfg_solve.specs.Walking.{AreMatching}
use Rattle.lfg_solve.proofs.checks.matches_any.Given as goal

abbrev pub invariant-loop-other : goal.invariant-loop-other
invariant-loop-other l = NoneOf (AreMatching l.values l.class) (take l.other-index l.others)
