use Rattle.std.proofs.Common.{take, drop}
use Rattle.lfg_context.specs.Sets.{IsMade, AreMade, IsGrown, HasSamePicks}
use Rattle.lfg_context.specs.Telling.{Tells, Excludes, InSome, OfAll}
use Rattle.lfg_wellformed.specs.Asked.{LeadsBy, IsMemberIn, IsFilling, NeedsFilled, NeedsArc, CompletesValue, CompletesArc, NamesAt, IsNaming, CoheresAt}
use Rattle.lfg_wellformed.proofs.arcs.has_arc.Given as goal

abbrev pub invariant-loop-number : goal.invariant-loop-number
invariant-loop-number l = record {
  grown : IsGrown l.fn.contexts l.contexts;
  picks : HasSamePicks l.fn.contexts l.contexts;
  made : IsMade l.contexts l.found;
  tells : Tells l.found (InSome (take l.number l.arcs) (LeadsBy l.closure l.place l.name));
}
