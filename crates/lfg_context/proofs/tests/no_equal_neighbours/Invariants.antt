use Rattle.std.proofs.Common.{length}
use Rattle.lfg_context.specs.Sets.{IsMade, HasPicksOf, DependsOnFirst}
use Rattle.lfg_context.proofs.tests.no_equal_neighbours.Given as goal

abbrev pub invariant-loop-choice : goal.invariant-loop-choice
invariant-loop-choice l = record {
  made : IsMade l.contexts l.all;
  depends : DependsOnFirst (length l.space) l.all;
  picks : HasPicksOf l.contexts l.space;
}
