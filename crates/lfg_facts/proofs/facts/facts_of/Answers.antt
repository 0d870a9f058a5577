use Rattle.std.proofs.Common.{List, [], subst}
use Rattle.lfg_facts.specs.Adding.{Adds}
use Rattle.lfg_facts.specs.Naming.{Names}
use Rattle.lfg_facts.specs.Stating.{IsListed}
use Rattle.lfg_facts.proofs.FactLaws.{facts_are, entries_some, entries_made}
use Rattle.lfg_facts.proofs.facts.facts_of.Goals as goal

pub returns-clause-facts : goal.returns-clause-facts
returns-clause-facts c =
    let P : List Names → Type 0 = λ t. Adds [] c.in_ok-entries.entries.items (IsListed c.args.closure.now t c.args.good.now) in
    facts_are c.requires.closure c.in_ok-table.table.items c.args.good.now c.in_ok-entries.entries.items c.in_ok-facts.facts.items c.in_ok-table.ensures.called
    (subst P c.as_slice.ensures.value c.in_ok-entries.ensures.adds) c.in_ok-facts.ensures.merged

pub returns-clause-ascends : goal.returns-clause-ascends
returns-clause-ascends c = c.in_ok-facts.ensures.merged.ascends

pub returns-clause-some : goal.returns-clause-some
returns-clause-some c = entries_some c.in_ok-facts.ensures.made

pub returns-clause-made : goal.returns-clause-made
returns-clause-made c = entries_made c.in_ok-facts.ensures.made
