use Rattle.std.proofs.Common.{take, drop}
use Rattle.lfg_context.specs.Sets.{IsMade, AreMade, IsGrown, HasSamePicks}
use Rattle.lfg_context.specs.Telling.{Tells, Excludes, InSome, OfAll}
use Rattle.lfg_constrain.specs.Checks.{IsValued, IsShared, IsCommon, IsOn, PassesAll}
use Rattle.lfg_constrain.proofs.checks.anywhere.Given as goal

abbrev pub invariant-loop-spot : goal.invariant-loop-spot
invariant-loop-spot l = record {
  grown : IsGrown l.fn.contexts l.contexts;
  picks : HasSamePicks l.fn.contexts l.contexts;
  made : IsMade l.contexts l.found;
  tells : Tells l.found (InSome (take l.spot-index l.spots) IsOn);
}
