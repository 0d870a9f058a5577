use Rattle.std.proofs.Common.{List, subst}
use Rattle.lfg_context.specs.Telling.{Tells}
use Rattle.lfg_unify.proofs.Closed.{closure_grown}
use Rattle.lfg_context.proofs.Growing.{grown_trans}
use Rattle.lfg_model.specs.Terms.{Name}
use Rattle.lfg_parse.specs.Judging.{IsCompleteWithin}
use Rattle.lfg_parse.proofs.Closures.{well_formed_left}
use Rattle.lfg_parse.proofs.good.well_formed.Goals as goal

pub returns-clause-tells : goal.returns-clause-tells
returns-clause-tells c =
    let ls = c.args.literals.now in
    let first = closure_grown c.in_ok-consistent.ensures.grown c.requires.closure in
    let second = closure_grown c.in_ok-complete.ensures.grown first in
    let P : List Name → Type 0 = λ ns. Tells c.in_ok-complete.complete (IsCompleteWithin ls ns c.in_ok-consistent.consistent) in
    well_formed_left c.args.grammar.now ls c.in_ok-consistent.consistent c.in_ok-complete.complete c.in_ok-cyclic.cyclic c.in_ok-acyclic.acyclic c.in_ok-acyclic.ensures.ok.members
    c.in_ok-consistent.ensures.tells (subst P c.list-governable.ensures (c.in_ok-complete.ensures.tells ls first)) (c.in_ok-cyclic.ensures.fails ls second)
