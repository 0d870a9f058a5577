use Rattle.std.proofs.Common.{arith}
use Rattle.lfg_solve.proofs.Solving.{arcs_read}
use Rattle.lfg_solve.proofs.solution.arcs_of_classes.Goals as goal

pub loop-arc-preserved : goal.loop-arc-preserved
loop-arc-preserved c =
    rw c.in_ok-push.ensures.items
    (arcs_read _ _ _ _ _ _ (omega arith) c.arc-item.is c.loop-arc.invariant (record { start = c.of.ensures; attribute = c.in_ok-clone.ensures.cases; end = c.of-in-loop-arc.ensures }))
