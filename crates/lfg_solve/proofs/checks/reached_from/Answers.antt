use Rattle.std.proofs.Common.{arith}
use Rattle.lfg_solve.proofs.Walks.{AreReached-read}
use Rattle.lfg_solve.proofs.checks.reached_from.Goals as goal

pub loop-path-preserved : goal.loop-path-preserved
loop-path-preserved c =
    rw c.in_ok-push_some.ensures
    (AreReached-read _ _ _ _ _ _ _ (omega arith) c.path-item.is
    (rw c.list.ensures at c.leads.ensures.found) (rw c.list.ensures at c.leads.ensures.only) (rw c.list.ensures at c.leads.ensures.none)
    c.loop-path.invariant)
