use Rattle.std.proofs.Common.{◌≡◌, length}
use Rattle.lfg_context.specs.Sets.{Assignment, IsGrown, HasSamePicks, AreMade}
use Rattle.lfg_instant.specs.Flow.{at, Flows}
use Rattle.lfg_instant.proofs.FlowRounds.{Progress}
use Rattle.lfg_instant.proofs.flow.flow.Given as goal

abbrev pub invariant-loop-turn : goal.invariant-loop-turn
invariant-loop-turn l = record {
  made : AreMade l.contexts (λ x. x) l.table.items;
  grown : IsGrown l.initial.contexts l.contexts;
  picks : HasSamePicks l.initial.contexts l.contexts;
  len : length l.table.items ≡ l.places;
  progress : (a : Assignment) → Progress (Flows l.passages l.picks l.root a) l.places (at l.picks a) l.passages l.root (at l.table.items a) l._turn;
}
