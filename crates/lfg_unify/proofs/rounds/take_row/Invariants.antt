use Rattle.std.proofs.Common.{◌≡◌, ◌≢◌, ◌≤◌, ℕ, false, length, take}
use Rattle.lfg_context.specs.Sets.{IsGrown, HasSamePicks}
use Rattle.lfg_unify.specs.Rows.{row_of, AreRows, Takes}
use Rattle.lfg_unify.proofs.rounds.take_row.Given as goal

abbrev pub invariant-loop-number : goal.invariant-loop-number
invariant-loop-number l = record {
  grown : IsGrown l.fn.contexts l.contexts;
  picks : HasSamePicks l.fn.contexts l.contexts;
  len : length l.table ≡ length l.fn.table;
  rows : AreRows l.contexts l.table;
  others : (x : ℕ) → x ≢ l.first → row_of l.table x ≡ row_of l.fn.table x;
  apart : l.second ≢ l.first;
  number : l.number ≤ length (row_of l.fn.table l.second);
  step : Takes (row_of l.fn.table l.first) l.ctx (take l.number (row_of l.fn.table l.second)) (row_of l.table l.first);
  kept : l.changed ≡ false → l.table ≡ l.fn.table;
}
