use Rattle.lfg_wellformed.proofs.AskedLaws.{exempt_tells, naming_tells, governs_tells, coheres_tells}
use Rattle.lfg_wellformed.proofs.coherence.exempt.Goals as goal

pub returns-clause-tells : goal.returns-clause-tells
returns-clause-tells c = exempt_tells c.args.closure.now c.args.place c.in_ok-set.set c.in_ok-form.form c.in_ok-free.free c.in_ok-set.ensures.tells c.in_ok-form.ensures.tells c.in_ok-free.ensures.ok.members
