use Rattle.std.proofs.Common.{take}
use Rattle.lfg_context.specs.Sets.{IsMade, IsGrown, HasSamePicks}
use Rattle.lfg_context.specs.Telling.{Tells, InSome}
use Rattle.lfg_facts.specs.Naming.{Holds}
use Rattle.lfg_facts.proofs.names.named.Given as goal

abbrev pub invariant-loop-name : goal.invariant-loop-name
invariant-loop-name l = record {
  grown : IsGrown l.fn.contexts l.contexts;
  picks : HasSamePicks l.fn.contexts l.contexts;
  made : IsMade l.contexts l.found;
  tells : Tells l.found (InSome (take l.name-index l.names) Holds);
}
