use Rattle.std.proofs.Common.{arith, refl}
use Rattle.lfg_solve.specs.Found.{LeadsBy}
use Rattle.lfg_solve.proofs.Finding.{NoneOf-none, NoneOf-read, none_found, not_so}
use Rattle.lfg_solve.proofs.Walks.{arc_found}
use Rattle.lfg_solve.proofs.checks.target.Goals as goal

pub loop-arc-init : goal.loop-arc-init
loop-arc-init c = NoneOf-none (LeadsBy c.args.class c.args.attribute.now)

pub returns-then-leads_by-clause-found : goal.returns-then-leads_by-clause-found
returns-then-leads_by-clause-found c = arc_found _ _ _ _ _ (omega arith) c.arc-item.is (c.leads_by.ensures.0 c.if-leads_by.true)

pub loop-arc-preserved : goal.loop-arc-preserved
loop-arc-preserved c = NoneOf-read (LeadsBy c.args.class c.args.attribute.now) _ _ _ (omega arith) c.arc-item.is c.loop-arc.invariant (not_so _ _ c.leads_by.ensures c.if-leads_by.false)

pub returns-clause-none : goal.returns-clause-none
returns-clause-none c = not_so _ _ (none_found (LeadsBy c.args.class c.args.attribute.now) _ _ (omega arith) c.loop-arc.invariant) refl
