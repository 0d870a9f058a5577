use Rattle.std.proofs.Common.{arith}
use Rattle.lfg_solve.specs.Found.{IsFilledBy}
use Rattle.lfg_solve.proofs.Finding.{NoneOf-none, NoneOf-read, none_found, not_so, some_found}
use Rattle.lfg_solve.proofs.conditions.has_filled.Goals as goal

pub loop-arc-init : goal.loop-arc-init
loop-arc-init c = NoneOf-none (IsFilledBy c.args.arcs.now c.args.members.now c.args.class c.args.function.now)

pub returns-then-is_filled_by : goal.returns-then-is_filled_by
returns-then-is_filled_by c = some_found (IsFilledBy c.args.arcs.now c.args.members.now c.args.class c.args.function.now) _ _ _ (omega arith) c.arc-item.is (c.is_filled_by.ensures.0 c.if-is_filled_by.true)

pub loop-arc-preserved : goal.loop-arc-preserved
loop-arc-preserved c = NoneOf-read (IsFilledBy c.args.arcs.now c.args.members.now c.args.class c.args.function.now) _ _ _ (omega arith) c.arc-item.is c.loop-arc.invariant (not_so _ _ c.is_filled_by.ensures c.if-is_filled_by.false)

pub returns : goal.returns
returns c = none_found (IsFilledBy c.args.arcs.now c.args.members.now c.args.class c.args.function.now) _ _ (omega arith) c.loop-arc.invariant
