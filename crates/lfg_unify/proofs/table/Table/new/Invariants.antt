use Rattle.std.proofs.Common.{◌≡◌, ℕ, [], length, map}
use Rattle.lfg_unify.specs.Rows.{row_of}
use Rattle.lfg_unify.proofs.table.Table.new.Given as goal

abbrev pub invariant-loop-place : goal.invariant-loop-place
invariant-loop-place l = record {
  len : length l.rows.items ≡ l._place;
  none : (i : ℕ) → row_of (map (λ row. row.items) l.rows.items) i ≡ [];
}
