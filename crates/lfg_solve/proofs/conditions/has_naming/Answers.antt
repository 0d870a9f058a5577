use Rattle.std.proofs.Common.{arith}
use Rattle.lfg_solve.specs.Found.{IsNaming}
use Rattle.lfg_solve.proofs.Finding.{NoneOf-none, NoneOf-read, none_found, not_so, some_found}
use Rattle.lfg_solve.proofs.conditions.has_naming.Goals as goal

pub loop-value-init : goal.loop-value-init
loop-value-init c = NoneOf-none (IsNaming c.args.target c.args.function.now)

pub returns-then-is_naming : goal.returns-then-is_naming
returns-then-is_naming c = some_found (IsNaming c.args.target c.args.function.now) _ _ _ (omega arith) c.value-item.is (c.is_naming.ensures.0 c.if-is_naming.true)

pub loop-value-preserved : goal.loop-value-preserved
loop-value-preserved c = NoneOf-read (IsNaming c.args.target c.args.function.now) _ _ _ (omega arith) c.value-item.is c.loop-value.invariant (not_so _ _ c.is_naming.ensures c.if-is_naming.false)

pub returns : goal.returns
returns c = none_found (IsNaming c.args.target c.args.function.now) _ _ (omega arith) c.loop-value.invariant
