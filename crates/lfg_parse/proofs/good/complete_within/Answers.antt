use Rattle.lfg_unify.proofs.Closed.{closure_grown}
use Rattle.lfg_context.proofs.Growing.{grown_trans}
use Rattle.lfg_parse.proofs.Closures.{complete_left}
use Rattle.lfg_parse.proofs.good.complete_within.Goals as goal

pub returns-clause-tells : goal.returns-clause-tells
returns-clause-tells c literals is =
    complete_left literals c.args.governable.now c.args.set.now c.in_ok-incomplete.incomplete c.in_ok-complete.complete c.in_ok-incoherent.incoherent c.in_ok-coherent.coherent
    c.in_ok-complete.ensures.ok.members c.in_ok-coherent.ensures.ok.members (c.in_ok-incomplete.ensures.fails literals is)
    (c.in_ok-incoherent.ensures.fails literals (closure_grown (grown_trans c.in_ok-incomplete.ensures.grown c.in_ok-complete.ensures.grown) is))
