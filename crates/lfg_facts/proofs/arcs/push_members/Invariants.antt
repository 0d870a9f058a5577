use Rattle.std.proofs.Common.{◌≤◌, length, take}
use Rattle.lfg_context.specs.Sets.{IsGrown, HasSamePicks}
use Rattle.lfg_context.specs.Telling.{InSome}
use Rattle.lfg_facts.specs.Adding.{Adds}
use Rattle.lfg_facts.specs.Stating.{AreEntries, IsMemberFact}
use Rattle.lfg_facts.proofs.arcs.push_members.Given as goal

abbrev pub invariant-loop-number : goal.invariant-loop-number
invariant-loop-number l = record {
  grown : IsGrown l.fn.contexts l.contexts;
  picks : HasSamePicks l.fn.contexts l.contexts;
  facts : AreEntries l.contexts l.facts.items;
  number : l.number ≤ length l.closure.members;
  adds : Adds l.fn.facts.items l.facts.items (λ f. InSome (take l.number l.closure.members) (IsMemberFact l.closure l.table l.good f));
}
