use Rattle.std.proofs.Common.{length}
use Rattle.lfg_context.specs.Sets.{IsMade, IsGrown, HasPicksOf, DependsOnFirst}
use Rattle.lfg_context.proofs.tests.equal_to_next.Given as goal

abbrev pub invariant-loop-alternative : goal.invariant-loop-alternative
invariant-loop-alternative l = record {
  made : IsMade l.contexts l.equal;
  depends : DependsOnFirst (length l.space) l.equal;
  grown : IsGrown l.fn.contexts l.contexts;
  picks : HasPicksOf l.contexts l.space;
}
