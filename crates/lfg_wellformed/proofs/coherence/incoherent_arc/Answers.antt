use Rattle.lfg_wellformed.proofs.AskedLaws.{exempt_tells, naming_tells, governs_tells, coheres_tells}
use Rattle.lfg_wellformed.proofs.coherence.incoherent_arc.Goals as goal

pub returns-clause-tells : goal.returns-clause-tells
returns-clause-tells c =
    coheres_tells c.args.closure.now c.args.governable.now c.args.arc.now c.in_ok-fails.fails (c.is_among.ensures.0 c.if-not-is_among.false)
    (governs_tells c.args.closure.now c.args.arc.now c.args.from c.in_ok-by_form.by_form c.in_ok-left.left c.in_ok-free.free c.in_ok-fails.fails c.requires.from c.in_ok-by_form.ensures.tells c.in_ok-free.ensures.tells
    c.in_ok-left.ensures.ok.members c.in_ok-fails.ensures.ok.members)
