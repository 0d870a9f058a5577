use Rattle.std.proofs.Common.{arith}
use Rattle.lfg_solve.specs.Found.{StandsBeside}
use Rattle.lfg_solve.proofs.Finding.{NoneOf-none, NoneOf-read, none_found, not_so, some_found}
use Rattle.lfg_solve.proofs.conditions.has_clashing.Goals as goal

pub loop-value-init : goal.loop-value-init
loop-value-init c = NoneOf-none (StandsBeside c.args.values.now c.args.arcs.now c.args.members.now)

pub returns-then-is_clashing : goal.returns-then-is_clashing
returns-then-is_clashing c = some_found (StandsBeside c.args.values.now c.args.arcs.now c.args.members.now) _ _ _ (omega arith) c.value-item.is (c.is_clashing.ensures.0 c.if-is_clashing.true)

pub loop-value-preserved : goal.loop-value-preserved
loop-value-preserved c = NoneOf-read (StandsBeside c.args.values.now c.args.arcs.now c.args.members.now) _ _ _ (omega arith) c.value-item.is c.loop-value.invariant (not_so _ _ c.is_clashing.ensures c.if-is_clashing.false)

pub returns : goal.returns
returns c = none_found (StandsBeside c.args.values.now c.args.arcs.now c.args.members.now) _ _ (omega arith) c.loop-value.invariant
