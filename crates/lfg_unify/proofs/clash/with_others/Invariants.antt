use Rattle.std.proofs.Common.{take}
use Rattle.lfg_context.specs.Sets.{IsMade, IsGrown, HasSamePicks}
use Rattle.lfg_context.specs.Telling.{Tells, InSome}
use Rattle.lfg_unify.specs.Clashes.{Differs, IsBeside, Clashes}
use Rattle.lfg_unify.proofs.clash.with_others.Given as goal

abbrev pub invariant-loop-other : goal.invariant-loop-other
invariant-loop-other l = record {
  grown : IsGrown l.fn.contexts l.contexts;
  picks : HasSamePicks l.fn.contexts l.contexts;
  made : IsMade l.contexts l.found;
  tells : Tells l.found (InSome (take l.other-index l.others) (IsBeside l.table l.first));
}
