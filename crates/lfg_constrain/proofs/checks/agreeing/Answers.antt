use Rattle.std.proofs.Common.{◌≡◌, true, List, subst, sym}
use Rattle.lfg_terms.specs.declared.literal.Target.{Target}
use Rattle.lfg_model.specs.Solve.{Agrees}
use Rattle.lfg_context.specs.Sets.{member}
use Rattle.lfg_context.specs.Telling.{Tells, InSome}
use Rattle.lfg_unify.specs.Closures.{Row, closure_at}
use Rattle.lfg_constrain.specs.Checks.{IsValued, Agreement}
use Rattle.lfg_constrain.proofs.CheckLaws.{atom_agrees, walk_agrees}
use Rattle.lfg_constrain.proofs.checks.agreeing.Goals as goal

pub returns-in-Atom-clause-tells : goal.returns-in-Atom-clause-tells
returns-in-Atom-clause-tells c =
    let P : Row → Type 0 = λ v. Tells c.in_ok-found-in-Atom.found (InSome c.args.closure.now.values (IsValued c.args.closure.now v c.in-Atom.atom)) in
    let Q : Target → Type 0 = λ t. Tells c.in_ok-found-in-Atom.found (λ a. (member c.args.set.now a ≡ true) × Agrees (closure_at c.args.closure.now a) c.args.left.now t) in
    subst Q (sym c.in-Atom.is)
    (atom_agrees c.args.left.now c.in-Atom.atom c.args.set.now c.in_ok-found-in-Atom.found c.in_ok-spots.spots.items c.requires.closure c.in_ok-spots.ensures.follows
    (subst P c.deref.ensures.value c.in_ok-found-in-Atom.ensures.tells))

pub returns-clause-tells : goal.returns-clause-tells
returns-clause-tells c =
    let P : Row → Type 0 = λ v. Tells c.in_ok-found-in-Walk.found (Agreement c.args.closure.now v c.deref-in-Walk-2.result.now) in
    let R : Row → Type 0 = λ v. Tells c.in_ok-found-in-Walk.found (Agreement c.args.closure.now c.in_ok-spots.spots.items v) in
    let Q : Target → Type 0 = λ t. Tells c.in_ok-found-in-Walk.found (λ a. (member c.args.set.now a ≡ true) × Agrees (closure_at c.args.closure.now a) c.args.left.now t) in
    subst Q (sym c.in-Walk.is)
    (walk_agrees c.args.left.now c.in-Walk.other c.args.set.now c.in_ok-found-in-Walk.found c.in_ok-spots.spots.items c.in_ok-others-in-Walk.others.items c.requires.closure
    c.in_ok-spots.ensures.follows c.in_ok-others-in-Walk.ensures.follows
    (subst R c.deref-in-Walk-2.ensures.value (subst P c.deref-in-Walk.ensures.value c.in_ok-found-in-Walk.ensures.tells)))
