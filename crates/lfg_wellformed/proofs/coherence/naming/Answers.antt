use Rattle.lfg_wellformed.proofs.AskedLaws.{exempt_tells, naming_tells, governs_tells, coheres_tells}
use Rattle.lfg_wellformed.proofs.coherence.naming.Goals as goal

pub returns-clause-tells : goal.returns-clause-tells
returns-clause-tells c =
    naming_tells c.args.closure.now c.args.place c.args.function.now c.args.arc.now c.args.ends.1 c.in_ok-here.here c.in_ok-there.there c.in_ok-all.all c.requires.to c.in_ok-here.ensures.tells c.in_ok-there.ensures.tells
    c.in_ok-all.ensures.ok.members
