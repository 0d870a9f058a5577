use Rattle.std.proofs.Common.{take}
use Rattle.lfg_context.specs.Sets.{IsGrown, HasSamePicks}
use Rattle.lfg_facts.specs.Stating.{AreEntries}
use Rattle.lfg_facts.specs.Merging.{IsMerged}
use Rattle.lfg_facts.proofs.MergeLaws.{StandIn}
use Rattle.lfg_facts.proofs.merge.united.Given as goal

abbrev pub invariant-loop-entry : goal.invariant-loop-entry
invariant-loop-entry l = record {
  grown : IsGrown l.fn.contexts l.contexts;
  picks : HasSamePicks l.fn.contexts l.contexts;
  facts : AreEntries l.contexts l.facts.items;
  stand : StandIn (take l.entry-index l.entries) l.facts.items;
  merged : IsMerged (take l.entry-index l.entries) l.facts.items;
}
