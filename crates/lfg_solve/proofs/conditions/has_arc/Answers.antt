use Rattle.std.proofs.Common.{arith}
use Rattle.lfg_solve.specs.Found.{Leaves}
use Rattle.lfg_solve.proofs.Finding.{NoneOf-none, NoneOf-read, none_found, not_so, some_found}
use Rattle.lfg_solve.proofs.conditions.has_arc.Goals as goal

pub loop-arc-init : goal.loop-arc-init
loop-arc-init c = NoneOf-none (Leaves c.args.class)

pub returns-then-leaves : goal.returns-then-leaves
returns-then-leaves c = some_found (Leaves c.args.class) _ _ _ (omega arith) c.arc-item.is (c.leaves.ensures.0 c.if-leaves.true)

pub loop-arc-preserved : goal.loop-arc-preserved
loop-arc-preserved c = NoneOf-read (Leaves c.args.class) _ _ _ (omega arith) c.arc-item.is c.loop-arc.invariant (not_so _ _ c.leaves.ensures c.if-leaves.false)

pub returns : goal.returns
returns c = none_found (Leaves c.args.class) _ _ (omega arith) c.loop-arc.invariant
