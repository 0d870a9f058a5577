use Rattle.std.proofs.Common.{subst, sym}
use Rattle.lfg_facts.specs.Stating.{Entries, AreEntries}
use Rattle.lfg_facts.proofs.Classes.{entries_push, entries_grown}
use Rattle.lfg_facts.proofs.AddLaws.{adds_one}
use Rattle.lfg_facts.proofs.FactLaws.{pair_adds}
use Rattle.lfg_facts.proofs.pairs.push_pair.Goals as goal

pub returns-clause-facts : goal.returns-clause-facts
returns-clause-facts c =
    let P : Entries → Type 0 = λ es. AreEntries c.and.new.self es in
    subst P (sym c.in_ok-push.ensures.items)
    (entries_push (c.in_ok-fact.fact, c.in_ok-both.both) (entries_grown c.in_ok-both.ensures.grown c.requires.facts) c.in_ok-both.ensures.ok.made (c.is_empty.ensures.some c.if-is_empty.false))

pub returns-clause-adds : goal.returns-clause-adds
returns-clause-adds c =
    pair_adds c.args.relation.now c.args.first.now c.args.second.now c.args.here.now c.in_ok-both.both c.in_ok-fact.fact c.args.facts.now.items c.push.new.self.items c.in_ok-fact.ensures c.in_ok-both.ensures.ok.members
    (adds_one c.args.facts.now.items c.push.new.self.items c.in_ok-fact.fact c.in_ok-both.both c.in_ok-push.ensures.items)
