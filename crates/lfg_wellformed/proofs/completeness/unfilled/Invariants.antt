use Rattle.std.proofs.Common.{take, drop}
use Rattle.lfg_context.specs.Sets.{IsMade, AreMade, IsGrown, HasSamePicks}
use Rattle.lfg_context.specs.Telling.{Tells, Excludes, InSome, OfAll}
use Rattle.lfg_wellformed.specs.Asked.{LeadsBy, IsMemberIn, IsFilling, NeedsFilled, NeedsArc, CompletesValue, CompletesArc, NamesAt, IsNaming, CoheresAt}
use Rattle.lfg_wellformed.proofs.completeness.unfilled.Given as goal

abbrev pub invariant-loop-name : goal.invariant-loop-name
invariant-loop-name l = record {
  grown : IsGrown l.fn.contexts l.contexts;
  picks : HasSamePicks l.fn.contexts l.contexts;
  made : IsMade l.contexts l.found;
  tells : Excludes l.found (OfAll (take l.name-index l.names) (NeedsFilled l.closure l.place l.set));
}
