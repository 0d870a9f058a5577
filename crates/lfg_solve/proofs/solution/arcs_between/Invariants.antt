use Rattle.std.proofs.Common.{take}
use Rattle.lfg_solve.specs.Numbers.{Corresponds, IsArcOf, IsStepTo}
use Rattle.lfg_solve.proofs.solution.arcs_between.Given as goal

abbrev pub invariant-loop-node : goal.invariant-loop-node
invariant-loop-node l = Corresponds (IsArcOf l.nodes) (IsStepTo (take l.node-index l.defined)) l.arcs.items
