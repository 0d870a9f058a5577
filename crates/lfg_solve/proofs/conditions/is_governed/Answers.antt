use Rattle.std.proofs.Common.{arith}
use Rattle.lfg_solve.specs.Found.{IsGovernedBy}
use Rattle.lfg_solve.proofs.Finding.{NoneOf-none, NoneOf-read, none_found, not_so, some_found}
use Rattle.lfg_solve.proofs.conditions.is_governed.Goals as goal

pub loop-arc-init : goal.loop-arc-init
loop-arc-init c = NoneOf-none (IsGovernedBy c.args.values.now c.args.class c.args.function.now)

pub returns-then-is_governed_by : goal.returns-then-is_governed_by
returns-then-is_governed_by c = some_found (IsGovernedBy c.args.values.now c.args.class c.args.function.now) _ _ _ (omega arith) c.arc-item.is (c.is_governed_by.ensures.0 c.if-is_governed_by.true)

pub loop-arc-preserved : goal.loop-arc-preserved
loop-arc-preserved c = NoneOf-read (IsGovernedBy c.args.values.now c.args.class c.args.function.now) _ _ _ (omega arith) c.arc-item.is c.loop-arc.invariant (not_so _ _ c.is_governed_by.ensures c.if-is_governed_by.false)

pub returns : goal.returns
returns c = none_found (IsGovernedBy c.args.values.now c.args.class c.args.function.now) _ _ (omega arith) c.loop-arc.invariant
