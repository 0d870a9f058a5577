use Rattle.lfg_chart.specs.Filling.{Turn}
use Rattle.lfg_chart.specs.Tables.{room_in}
use Rattle.lfg_chart.proofs.fill.settle.Given as goal

abbrev pub invariant-loop-from : goal.invariant-loop-from
invariant-loop-from l = Turn l.rules l.initial.table l.table l.changed

abbrev pub decreases-loop-from : goal.decreases-loop-from
decreases-loop-from l = room_in l.table
