use Rattle.std.proofs.Common.{arith}
use Rattle.lfg_model.specs.Solve.{Holds, solution}
use Rattle.lfg_solve.proofs.Finding.{EachOf-none, not_so}
use Rattle.lfg_solve.proofs.Walks.{checks_read, each_check, one_check_fails}
use Rattle.lfg_solve.proofs.assigned.satisfies_all.Goals as goal

pub loop-literal-init : goal.loop-literal-init
loop-literal-init c = λ y. EachOf-none (Holds (solution c.args.literals.now))

pub returns-then-not-meets : goal.returns-then-not-meets
returns-then-not-meets c = λ y.
    one_check_fails (Holds (solution c.args.literals.now)) c.args.literals.now c.loop-literal.literal-index c.literal-item.result (omega arith) c.literal-item.is
    (not_so _ _ (c.in_ok-meets.ensures c.args.literals.now y) c.if-not-meets.true)

pub loop-literal-preserved : goal.loop-literal-preserved
loop-literal-preserved c = λ y.
    checks_read (Holds (solution c.args.literals.now)) c.args.literals.now c.loop-literal.literal-index c.literal-item.result (omega arith) c.literal-item.is
    (c.loop-literal.invariant y) ((c.in_ok-meets.ensures c.args.literals.now y).0 c.if-not-meets.false)

pub returns : goal.returns
returns c = λ y. each_check (Holds (solution c.args.literals.now)) c.args.literals.now c.loop-literal.literal-index (omega arith) (c.loop-literal.invariant y)
