use Rattle.std.proofs.Common.{subst}
use Rattle.lfg_context.specs.Telling.{Tells, InSome}
use Rattle.lfg_unify.specs.Closures.{Row, closure_at}
use Rattle.lfg_constrain.specs.Checks.{IsOn}
use Rattle.lfg_constrain.proofs.CheckLaws.{walk_leads}
use Rattle.lfg_constrain.proofs.checks.leading.Goals as goal

pub returns-clause-tells : goal.returns-clause-tells
returns-clause-tells c =
    let P : Row → Type 0 = λ v. Tells c.in_ok-found.found (InSome v IsOn) in
    walk_leads c.args.way.now c.args.set.now c.in_ok-found.found c.in_ok-spots.spots.items c.requires.closure c.in_ok-spots.ensures.follows (subst P c.deref.ensures.value c.in_ok-found.ensures.tells)
