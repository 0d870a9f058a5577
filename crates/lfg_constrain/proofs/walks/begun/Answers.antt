use Rattle.std.proofs.Common.{List, [], subst, sym}
use Rattle.lfg_unify.specs.Closures.{Row}
use Rattle.lfg_unify.specs.Rows.{Widens}
use Rattle.lfg_constrain.specs.Spots.{Begins}
use Rattle.lfg_constrain.proofs.Classes.{equal_result}
use Rattle.lfg_constrain.proofs.WalkLaws.{begins_absent, begins_there}
use Rattle.lfg_constrain.proofs.walks.begun.Goals as goal

pub returns-in_default-clause-begins : goal.returns-in_default-clause-begins
returns-in_default-clause-begins c =
    let P : Row → Type 0 = λ v. Begins c.args.closure.now c.args.start.now c.args.set.now v in
    subst P (sym c.new-spots.ensures.items) (begins_absent c.args.start.now c.args.set.now c.requires.closure c.in_default.ensures.missing)

pub and-requires-clause-b_made : goal.and-requires-clause-b_made
and-requires-clause-b_made c = equal_result c.args.start.now c.args.start.now c.requires.closure c.equal.ensures

pub returns-clause-begins : goal.returns-clause-begins
returns-clause-begins c =
    let P : Row → Type 0 = λ v. Widens v c.in-Some.place c.in_ok-there.there c.widen.new.spots.items in
    begins_there c.args.closure.now c.args.start.now c.args.set.now c.equal.result.now c.in_ok-there.there c.in-Some.place c.widen.new.spots.items c.in-Some.ensures.found c.equal.ensures c.in_ok-there.ensures.ok.members
    (subst P c.new-spots.ensures.items c.in_ok-widen.ensures.step)
