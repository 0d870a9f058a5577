use Rattle.std.proofs.Common.{◌∙◌, ap, subst}
use Rattle.std.specs.Prelude.{codes}
use Rattle.lfg_model.specs.Terms.{Name}
use Rattle.lfg_unify.specs.Closures.{place_in}
use Rattle.lfg_facts.specs.Adding.{Adds}
use Rattle.lfg_facts.specs.Naming.{Names, names_in}
use Rattle.lfg_facts.specs.Stating.{IsRelated}
use Rattle.lfg_facts.proofs.NameLaws.{names_made}
use Rattle.lfg_facts.proofs.arcs.push_member.Goals as goal

pub push_related-requires-clause-firsts : goal.push_related-requires-clause-firsts
push_related-requires-clause-firsts c = names_made c.args.table.now c.args.item c.names_in-items.result.now c.names_in-items.ensures c.requires.table

pub push_related-requires-clause-seconds : goal.push_related-requires-clause-seconds
push_related-requires-clause-seconds c = names_made c.args.table.now c.args.set c.names_in-sets.result.now c.names_in-sets.ensures c.requires.table

pub returns-clause-adds : goal.returns-clause-adds
returns-clause-adds c =
    let relation = codes "in_set" in
    let firsts = c.names_in-items.ensures ∙ ap (λ p. names_in c.args.table.now p) c.requires.item in
    let seconds = c.names_in-sets.ensures ∙ ap (λ p. names_in c.args.table.now p) c.requires.set in
    let R : Name → Type 0 = λ r. Adds c.args.facts.now.items c.push_related.new.facts.items (IsRelated r c.names_in-items.result.now c.names_in-sets.result.now c.args.good.now c.args.member.now.2) in
    let F : Names → Type 0 = λ ns. Adds c.args.facts.now.items c.push_related.new.facts.items (IsRelated relation ns c.names_in-sets.result.now c.args.good.now c.args.member.now.2) in
    let G : Names → Type 0 = λ ns. Adds c.args.facts.now.items c.push_related.new.facts.items (IsRelated relation (names_in c.args.table.now (place_in c.args.closure.now.nodes c.args.member.now.0)) ns c.args.good.now c.args.member.now.2) in
    subst G seconds (subst F firsts (subst R c.in_ok-relation.ensures c.in_ok-push_related.ensures.adds))
