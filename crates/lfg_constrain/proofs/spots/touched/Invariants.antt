use Rattle.std.proofs.Common.{take, drop}
use Rattle.lfg_context.specs.Sets.{IsMade, AreMade, IsGrown, HasSamePicks}
use Rattle.lfg_context.specs.Telling.{Tells, Excludes, InSome, OfAll}
use Rattle.lfg_constrain.specs.Spots.{Joins, IsMet, Steps, FollowsSome}
use Rattle.lfg_constrain.proofs.spots.touched.Given as goal

abbrev pub invariant-loop-spot : goal.invariant-loop-spot
invariant-loop-spot l = record {
  grown : IsGrown l.fn.contexts l.contexts;
  picks : HasSamePicks l.fn.contexts l.contexts;
  made : IsMade l.contexts l.met;
  tells : Tells l.met (InSome (take l.spot-index l.spots) (IsMet l.closure l.place));
}
