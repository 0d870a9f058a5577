use Rattle.std.proofs.Common.{take}
use Rattle.lfg_context.specs.Sets.{IsGrown, HasSamePicks}
use Rattle.lfg_context.specs.Telling.{InSome}
use Rattle.lfg_facts.specs.Adding.{Adds}
use Rattle.lfg_facts.specs.Stating.{AreEntries, IsPair}
use Rattle.lfg_facts.proofs.pairs.push_seconds.Given as goal

abbrev pub invariant-loop-second : goal.invariant-loop-second
invariant-loop-second l = record {
  grown : IsGrown l.fn.contexts l.contexts;
  picks : HasSamePicks l.fn.contexts l.contexts;
  facts : AreEntries l.contexts l.facts.items;
  adds : Adds l.fn.facts.items l.facts.items (λ f. InSome (take l.second-index l.seconds) (IsPair l.relation l.first l.here f));
}
