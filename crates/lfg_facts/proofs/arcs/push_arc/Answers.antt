use Rattle.std.proofs.Common.{◌∙◌, ap, subst}
use Rattle.lfg_unify.specs.Closures.{place_in}
use Rattle.lfg_facts.specs.Adding.{Adds}
use Rattle.lfg_facts.specs.Naming.{Names, names_in}
use Rattle.lfg_facts.specs.Stating.{IsRelated}
use Rattle.lfg_facts.proofs.NameLaws.{names_made}
use Rattle.lfg_facts.proofs.arcs.push_arc.Goals as goal

pub push_related-requires-clause-firsts : goal.push_related-requires-clause-firsts
push_related-requires-clause-firsts c = names_made c.args.table.now c.args.source c.names_in-sources.result.now c.names_in-sources.ensures c.requires.table

pub push_related-requires-clause-seconds : goal.push_related-requires-clause-seconds
push_related-requires-clause-seconds c = names_made c.args.table.now c.args.target c.names_in-targets.result.now c.names_in-targets.ensures c.requires.table

pub returns-clause-adds : goal.returns-clause-adds
returns-clause-adds c =
    let relation = c.args.arc.now.1 in
    let firsts = c.names_in-sources.ensures ∙ ap (λ p. names_in c.args.table.now p) c.requires.source in
    let seconds = c.names_in-targets.ensures ∙ ap (λ p. names_in c.args.table.now p) c.requires.target in
    let F : Names → Type 0 = λ ns. Adds c.args.facts.now.items c.push_related.new.facts.items (IsRelated relation ns c.names_in-targets.result.now c.args.good.now c.args.arc.now.3) in
    let G : Names → Type 0 = λ ns. Adds c.args.facts.now.items c.push_related.new.facts.items (IsRelated relation (names_in c.args.table.now (place_in c.args.closure.now.nodes c.args.arc.now.0)) ns c.args.good.now c.args.arc.now.3) in
    subst G seconds (subst F firsts c.in_ok-push_related.ensures.adds)
