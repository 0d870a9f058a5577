use Rattle.std.proofs.Common.{arith}
use Rattle.lfg_solve.specs.Found.{IsOther}
use Rattle.lfg_solve.proofs.Finding.{NoneOf-none, NoneOf-read, none_found, not_so, some_found}
use Rattle.lfg_solve.proofs.conditions.has_other_value.Goals as goal

pub loop-value-init : goal.loop-value-init
loop-value-init c = NoneOf-none (IsOther c.args.class c.args.constant.now)

pub returns-then-is_other : goal.returns-then-is_other
returns-then-is_other c = some_found (IsOther c.args.class c.args.constant.now) _ _ _ (omega arith) c.value-item.is (c.is_other.ensures.0 c.if-is_other.true)

pub loop-value-preserved : goal.loop-value-preserved
loop-value-preserved c = NoneOf-read (IsOther c.args.class c.args.constant.now) _ _ _ (omega arith) c.value-item.is c.loop-value.invariant (not_so _ _ c.is_other.ensures c.if-is_other.false)

pub returns : goal.returns
returns c = none_found (IsOther c.args.class c.args.constant.now) _ _ (omega arith) c.loop-value.invariant
