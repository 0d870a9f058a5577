use Rattle.std.proofs.Common.{subst}
use Rattle.lfg_context.specs.Telling.{InSome}
use Rattle.lfg_facts.specs.Adding.{Adds}
use Rattle.lfg_facts.specs.Stating.{Entries, IsArcFact}
use Rattle.lfg_facts.proofs.FactLaws.{listed_by}
use Rattle.lfg_facts.proofs.facts.listed.Goals as goal

pub returns-clause-adds : goal.returns-clause-adds
returns-clause-adds c =
    let P : Entries → Type 0 = λ es. Adds es c.push_arcs.new.facts.items (λ f. InSome c.args.closure.now.arcs (IsArcFact c.args.closure.now c.args.table.now c.args.good.now f)) in
    listed_by c.args.closure.now c.args.table.now c.args.good.now c.push_arcs.new.facts.items c.push_members.new.facts.items c.push_preds.new.facts.items
    (subst P c.new-facts.ensures.items c.in_ok-push_arcs.ensures.adds) c.in_ok-push_members.ensures.adds c.in_ok-push_preds.ensures.adds
