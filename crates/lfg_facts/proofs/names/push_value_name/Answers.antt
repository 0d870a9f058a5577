use Rattle.std.proofs.Common.{◌∙◌, ap}
use Rattle.lfg_terms.specs.declared.node.Arg as arg
use Rattle.lfg_facts.proofs.Classes.{equal_at_result}
use Rattle.lfg_facts.proofs.AddLaws.{adds_one}
use Rattle.lfg_facts.proofs.NameLaws.{value_name_adds}
use Rattle.lfg_facts.proofs.names.push_value_name.Goals as goal

pub and-requires-clause-a_made : goal.and-requires-clause-a_made
and-requires-clause-a_made c = equal_at_result c.args.place c.args.value_place c.requires.closure c.equal_at.ensures

pub returns-clause-adds : goal.returns-clause-adds
returns-clause-adds c =
    let name = arg.Atom c.in_ok-name.name in
    value_name_adds c.args.closure.now c.args.place c.args.value_place c.args.value.now name c.equal_at.result.now c.in_ok-both.both c.args.names.now.items c.push.new.self.items
    (ap (λ n. arg.Atom n) (c.in_ok-name.ensures.cases ∙ c.constant_name.ensures)) c.requires.at c.equal_at.ensures c.in_ok-both.ensures.ok.members
    (adds_one c.args.names.now.items c.push.new.self.items name c.in_ok-both.both c.in_ok-push.ensures.items)
