use Rattle.std.proofs.Common.{take}
use Rattle.lfg_solve.specs.Walking.{AreReached}
use Rattle.lfg_solve.proofs.checks.reached_from.Given as goal

abbrev pub invariant-loop-path : goal.invariant-loop-path
invariant-loop-path l = AreReached l.arcs l.start (take l.path-index l.paths) l.classes.items
