use Rattle.std.proofs.Common.{◌≡◌, ◌≢◌, ℕ, length, take}
use Rattle.lfg_context.specs.Sets.{IsGrown, HasSamePicks}
use Rattle.lfg_unify.specs.Rows.{row_of, AreRows, Takes}
use Rattle.lfg_unify.proofs.classes.take_entries.Given as goal

abbrev pub invariant-loop-entry : goal.invariant-loop-entry
invariant-loop-entry l = record {
  grown : IsGrown l.fn.contexts l.contexts;
  picks : HasSamePicks l.fn.contexts l.contexts;
  len : length l.table ≡ length l.fn.table;
  rows : AreRows l.contexts l.table;
  others : (x : ℕ) → x ≢ l.place → row_of l.table x ≡ row_of l.fn.table x;
  step : Takes (row_of l.fn.table l.place) l.ctx (take l.entry-index l.row) (row_of l.table l.place);
}
