use Rattle.std.proofs.Common.{◌≡◌, ◌+◌, drop}
use Rattle.lfg_unify.specs.Rows.{count_before}
use Rattle.lfg_unify.proofs.table.count_before.Given as goal

abbrev pub invariant-loop-entry : goal.invariant-loop-entry
invariant-loop-entry l = record {
  counted : l.count ≡ l.entry-index;
  rest : count_before l.row l.place ≡ l.count + count_before (drop l.entry-index l.row) l.place;
}
