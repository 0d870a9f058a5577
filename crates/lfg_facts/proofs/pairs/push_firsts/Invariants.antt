use Rattle.std.proofs.Common.{take}
use Rattle.lfg_context.specs.Sets.{IsGrown, HasSamePicks}
use Rattle.lfg_context.specs.Telling.{InSome}
use Rattle.lfg_facts.specs.Adding.{Adds}
use Rattle.lfg_facts.specs.Stating.{AreEntries, IsPairOf}
use Rattle.lfg_facts.proofs.pairs.push_firsts.Given as goal

abbrev pub invariant-loop-first : goal.invariant-loop-first
invariant-loop-first l = record {
  grown : IsGrown l.fn.contexts l.contexts;
  picks : HasSamePicks l.fn.contexts l.contexts;
  facts : AreEntries l.contexts l.facts.items;
  adds : Adds l.fn.facts.items l.facts.items (λ f. InSome (take l.first-index l.firsts) (IsPairOf l.relation l.seconds l.here f));
}
