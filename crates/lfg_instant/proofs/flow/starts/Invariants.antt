use Rattle.std.proofs.Common.{◌≡◌, ◌<◌, ◌==◌, ℕ, length}
use Rattle.lfg_context.specs.Sets.{Assignment, AreMade}
use Rattle.lfg_instant.specs.Flow.{at, held}
use Rattle.lfg_instant.proofs.flow.starts.Given as goal

abbrev pub invariant-loop-place : goal.invariant-loop-place
invariant-loop-place l = record {
  made : AreMade l.contexts (λ x. x) l.table.items;
  len : length l.table.items ≡ l.place;
  holds : (a : Assignment) (i : ℕ) → i < l.place → held (at l.table.items a) i ≡ (i == l.root);
}
