use Rattle.std.proofs.Common.{List, subst}
use Rattle.std.specs.Prelude.{codes}
use Rattle.lfg_model.specs.Terms.{Name}
use Rattle.lfg_facts.specs.Adding.{Adds}
use Rattle.lfg_facts.specs.Stating.{IsFunctionIn}
use Rattle.lfg_facts.proofs.FactLaws.{form_more}
use Rattle.lfg_facts.proofs.forms.push_named.Goals as goal

pub returns-clause-adds : goal.returns-clause-adds
returns-clause-adds c =
    let F : List Name → Type 0 = λ ns. Adds c.args.facts.now.items c.push_functions.new.facts.items (IsFunctionIn (codes "arg") ns c.args.name.now.0 c.in_ok-both.both) in
    let G : List Name → Type 0 = λ ns. Adds c.push_functions.new.facts.items c.push_functions-2.new.facts.items (IsFunctionIn (codes "nonarg") ns c.args.name.now.0 c.in_ok-both.both) in
    form_more c.args.form.now c.args.here.now c.in_ok-both.both c.args.name.now c.args.facts.now.items c.push_functions.new.facts.items c.push_functions-2.new.facts.items c.in_ok-both.ensures.ok.members
    (subst F c.list.ensures c.in_ok-push_functions.ensures.adds) (subst G c.list-2.ensures c.in_ok-push_functions-2.ensures.adds)
