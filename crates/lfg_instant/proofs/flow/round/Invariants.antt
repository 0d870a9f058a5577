use Rattle.std.proofs.Common.{◌≡◌, false, length, drop}
use Rattle.lfg_context.specs.Sets.{Assignment, IsGrown, HasSamePicks, AreMade}
use Rattle.lfg_instant.specs.Flow.{after_all, at}
use Rattle.lfg_instant.proofs.flow.round.Given as goal

abbrev pub invariant-loop-passage : goal.invariant-loop-passage
invariant-loop-passage l = record {
  made : AreMade l.contexts (λ x. x) l.table.items;
  grown : IsGrown l.initial.contexts l.contexts;
  picks : HasSamePicks l.initial.contexts l.contexts;
  len : length l.table.items ≡ length l.initial.table.items;
  step : (a : Assignment) → after_all (at l.picks a) (drop l.passage-index l.passages) (at l.table.items a) ≡ after_all (at l.picks a) l.passages (at l.initial.table.items a);
  kept : l.changed ≡ false → l.table.items ≡ l.initial.table.items;
}
