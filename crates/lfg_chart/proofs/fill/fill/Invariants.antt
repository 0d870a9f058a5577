use Rattle.std.proofs.Common.{◌≡◌, ℕ}
use Rattle.lfg_chart.specs.declared.table.Row.{Row}
use Rattle.lfg_chart.specs.Filling.{Ready, IsSound}
use Rattle.lfg_chart.specs.Tables.{Holds, IsRow, room_in}
use Rattle.lfg_chart.proofs.fill.fill.Given as goal

abbrev pub invariant-loop : goal.invariant-loop
invariant-loop l = record { ready : Ready l.rules l.table; size : l.table.size ≡ l.fn.table.size; rows : (row : Row) → IsRow l.fn.table row → IsRow l.table row; sound : IsSound l.rules l.fn.table l.table; keeps : (row : Row) (i j : ℕ) → Holds l.fn.table row i j → Holds l.table row i j }

abbrev pub decreases-loop : goal.decreases-loop
decreases-loop l = room_in l.table
