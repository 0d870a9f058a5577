use Rattle.lfg_wellformed.proofs.AskedLaws.{has_functions}
use Rattle.lfg_wellformed.proofs.completeness.lacking.Goals as goal

pub returns-clause-tells : goal.returns-clause-tells
returns-clause-tells c =
    has_functions c.args.closure.now c.args.place c.args.set.now c.in_ok-inner.inner c.in_ok-outer.outer c.in_ok-all.all c.args.form.now c.list.result.now c.list-2.result.now c.list.ensures c.list-2.ensures
    c.in_ok-inner.ensures.tells c.in_ok-outer.ensures.tells c.in_ok-all.ensures.ok.members
