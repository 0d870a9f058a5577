use Rattle.lfg_facts.proofs.Classes.{equal_at_result}
use Rattle.lfg_facts.proofs.FactLaws.{value_adds}
use Rattle.lfg_facts.proofs.forms.push_value.Goals as goal

pub and-requires-clause-a_made : goal.and-requires-clause-a_made
and-requires-clause-a_made c = equal_at_result c.args.place c.args.value_place c.requires.closure c.equal_at.ensures

pub returns-clause-adds : goal.returns-clause-adds
returns-clause-adds c =
    value_adds c.args.closure.now c.args.place c.args.value_place c.args.value.now c.in-Form.form c.in-Form.site c.in-Form.index c.args.names.now c.args.here.now c.equal_at.result.now c.in_ok-held.held c.in_ok-all.all
    c.args.facts.now.items c.push_form.new.facts.items c.in-Form.is c.requires.at c.equal_at.ensures c.in_ok-held.ensures.ok.members c.in_ok-all.ensures.ok.members c.in_ok-push_form.ensures.adds
