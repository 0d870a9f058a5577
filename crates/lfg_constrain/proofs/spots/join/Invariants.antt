use Rattle.std.proofs.Common.{take, drop}
use Rattle.lfg_context.specs.Sets.{IsMade, AreMade, IsGrown, HasSamePicks}
use Rattle.lfg_constrain.specs.Spots.{Joins, IsMet, Steps, FollowsSome}
use Rattle.lfg_constrain.proofs.spots.join.Given as goal

abbrev pub invariant-loop-spot : goal.invariant-loop-spot
invariant-loop-spot l = record {
  grown : IsGrown l.fn.contexts l.contexts;
  picks : HasSamePicks l.fn.contexts l.contexts;
  spots : AreMade l.contexts (λ s. s.1) l.spots.items;
  joins : Joins l.fn.spots.items (take l.spot-index l.more) l.spots.items;
}
