use Rattle.lfg_wellformed.proofs.Classes.{equal_at_result, some_closure_grown}
use Rattle.lfg_wellformed.proofs.AskedLaws.{completes_form, meets_tells}
use Rattle.lfg_wellformed.proofs.completeness.incomplete_value.Goals as goal

pub and-requires-2-clause-b_made : goal.and-requires-2-clause-b_made
and-requires-2-clause-b_made c = equal_at_result c.args.ends.1 c.args.place (some_closure_grown c.and.ensures.grown c.requires.closure) c.equal_at.ensures

pub returns-clause-tells : goal.returns-clause-tells
returns-clause-tells c =
    completes_form c.args.closure.now c.args.arc.now c.args.value.now c.args.ends.0 c.in-Form.form c.in-Form.site c.in-Form.index c.in_ok-here.here c.in_ok-lacks.lacks c.in-Form.is c.requires.from
    (meets_tells c.args.closure.now c.args.arc.now c.args.value.now c.args.ends.1 c.args.place c.in_ok-both.both c.equal_at.result.now c.in_ok-here.here c.requires.to c.requires.place c.equal_at.ensures
    c.in_ok-both.ensures.ok.members c.in_ok-here.ensures.ok.members) c.in_ok-lacks.ensures.tells
