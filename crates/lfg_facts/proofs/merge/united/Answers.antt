use Rattle.std.proofs.Common.{[], sym, subst, arith}
use Rattle.lfg_context.proofs.Growing.{grown_refl, grown_trans, same_picks_refl, same_picks_trans}
use Rattle.lfg_facts.specs.Stating.{Entries, AreEntries}
use Rattle.lfg_facts.specs.Merging.{IsMerged}
use Rattle.lfg_facts.proofs.Classes.{entries_grown, entries_nil, entry_at}
use Rattle.lfg_facts.proofs.MergeLaws.{StandIn, stand_none, stand_more, merged_none, merged_more, merged_all}
use Rattle.lfg_facts.proofs.merge.united.Goals as goal

pub loop-entry-init : goal.loop-entry-init
loop-entry-init c =
    let empty = sym c.new-facts.ensures.items in
    record {
      grown = grown_refl c.args.contexts.now;
      picks = same_picks_refl c.args.contexts.now;
      facts = (let P : Entries → Type 0 = λ es. AreEntries c.args.contexts.now es in subst P empty (entries_nil c.args.contexts.now));
      stand = (let P : Entries → Type 0 = λ es. StandIn [] es in subst P empty stand_none);
      merged = (let P : Entries → Type 0 = λ es. IsMerged [] es in subst P empty merged_none);
    }

pub put-requires-clause-entry : goal.put-requires-clause-entry
put-requires-clause-entry c = entry_at c.loop-entry.entry-index c.entry-item.result (entries_grown c.loop-entry.invariant.grown c.requires.made) (omega arith) c.entry-item.is

pub loop-entry-preserved : goal.loop-entry-preserved
loop-entry-preserved c =
    let inv = c.loop-entry.invariant in
    let n = c.loop-entry.entry-index in
    let d = c.entry-item.result in
    record {
      grown = grown_trans inv.grown c.in_ok-put.ensures.grown;
      picks = same_picks_trans inv.picks c.in_ok-put.ensures.picks;
      facts = c.in_ok-put.ensures.facts;
      stand = stand_more c.args.entries.now n d c.loop-entry.facts.items c.put.new.facts.items (omega arith) c.entry-item.is inv.stand c.in_ok-put.ensures.puts;
      merged = merged_more c.args.entries.now n d c.loop-entry.facts.items c.put.new.facts.items (omega arith) c.entry-item.is c.requires.sorted inv.stand inv.merged c.in_ok-put.ensures.puts;
    }

pub returns-clause-merged : goal.returns-clause-merged
returns-clause-merged c = merged_all c.args.entries.now c.loop-entry.facts.items c.loop-entry.entry-index (omega arith) c.loop-entry.invariant.merged
