use Rattle.std.proofs.Common.{take, drop}
use Rattle.lfg_context.specs.Sets.{IsMade, AreMade, IsGrown, HasSamePicks}
use Rattle.lfg_constrain.specs.Spots.{Joins, IsMet, Steps, FollowsSome}
use Rattle.lfg_constrain.proofs.walks.step.Given as goal

abbrev pub invariant-loop-number : goal.invariant-loop-number
invariant-loop-number l = record {
  grown : IsGrown l.fn.contexts l.contexts;
  picks : HasSamePicks l.fn.contexts l.contexts;
  spots : AreMade l.contexts (λ s. s.1) l.found.items;
  steps : Steps l.closure (take l.number l.arcs) l.spots l.name l.found.items;
}
