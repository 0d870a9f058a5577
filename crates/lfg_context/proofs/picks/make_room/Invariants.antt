use Rattle.std.proofs.Common.{◌≡◌, ℕ, ◌≤◌, ◌<◌, length}
use Rattle.lfg_context.specs.Tables.{arity_in}
use Rattle.lfg_context.proofs.picks.make_room.Given as goal

abbrev pub invariant-loop-place : goal.invariant-loop-place
invariant-loop-place l = record {
  same : (c : ℕ) → arity_in l.arities.items c ≡ arity_in l.fn.arities.items c;
  len : length l.arities.items ≡ l._place;
  bound : (m : ℕ) → length l.fn.arities.items ≤ m → l.choice < m → length l.arities.items ≤ m;
  longer : length l.fn.arities.items ≤ length l.arities.items;
}
