use Rattle.std.proofs.Common.{arith}
use Rattle.lfg_solve.specs.Found.{LeadsBy}
use Rattle.lfg_solve.proofs.Finding.{NoneOf-none, NoneOf-read, none_found, not_so, some_found}
use Rattle.lfg_solve.proofs.conditions.has_arc_by.Goals as goal

pub loop-arc-init : goal.loop-arc-init
loop-arc-init c = NoneOf-none (LeadsBy c.args.class c.args.attribute.now)

pub returns-then-leads_by : goal.returns-then-leads_by
returns-then-leads_by c = some_found (LeadsBy c.args.class c.args.attribute.now) _ _ _ (omega arith) c.arc-item.is (c.leads_by.ensures.0 c.if-leads_by.true)

pub loop-arc-preserved : goal.loop-arc-preserved
loop-arc-preserved c = NoneOf-read (LeadsBy c.args.class c.args.attribute.now) _ _ _ (omega arith) c.arc-item.is c.loop-arc.invariant (not_so _ _ c.leads_by.ensures c.if-leads_by.false)

pub returns : goal.returns
returns c = none_found (LeadsBy c.args.class c.args.attribute.now) _ _ (omega arith) c.loop-arc.invariant
