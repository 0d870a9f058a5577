use Rattle.std.proofs.Common.{take, drop}
use Rattle.lfg_context.specs.Sets.{IsMade, AreMade, IsGrown, HasSamePicks}
use Rattle.lfg_constrain.proofs.WalkLaws.{OnWay}
use Rattle.lfg_constrain.proofs.walks.walk.Given as goal

abbrev pub invariant-loop-name : goal.invariant-loop-name
invariant-loop-name l = record {
  grown : IsGrown l.fn.contexts l.contexts;
  picks : HasSamePicks l.fn.contexts l.contexts;
  spots : AreMade l.contexts (λ s. s.1) l.spots.items;
  way : OnWay l.closure l.start l.set l.path (drop l.name-index l.path) l.spots.items;
}
