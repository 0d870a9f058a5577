use Rattle.std.proofs.Common.{take}
use Rattle.lfg_context.specs.Sets.{IsMade, IsGrown, HasSamePicks}
use Rattle.lfg_context.specs.Telling.{Tells, InSome}
use Rattle.lfg_unify.specs.Clashes.{Differs, IsBeside, Clashes}
use Rattle.lfg_unify.proofs.clash.clash.Given as goal

abbrev pub invariant-loop-first : goal.invariant-loop-first
invariant-loop-first l = record {
  grown : IsGrown l.fn.contexts l.contexts;
  picks : HasSamePicks l.fn.contexts l.contexts;
  made : IsMade l.contexts l.found;
  tells : Tells l.found (InSome (take l.first-index l.values) (Clashes l.table l.values l.sources l.sets));
}
