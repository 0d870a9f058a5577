use Rattle.std.proofs.Common.{take, drop}
use Rattle.lfg_context.specs.Sets.{IsMade, AreMade, IsGrown, HasSamePicks}
use Rattle.lfg_constrain.specs.Spots.{Joins, IsMet, Steps, FollowsSome}
use Rattle.lfg_constrain.proofs.walks.reached.Given as goal

abbrev pub invariant-loop-path : goal.invariant-loop-path
invariant-loop-path l = record {
  grown : IsGrown l.fn.contexts l.contexts;
  picks : HasSamePicks l.fn.contexts l.contexts;
  spots : AreMade l.contexts (λ s. s.1) l.found.items;
  follows : FollowsSome l.closure l.way.start l.set (take l.path-index l.way.paths) l.found.items;
}
