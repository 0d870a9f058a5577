use Rattle.std.proofs.Common.{◌≡◌, ◌≤◌, false}
use Rattle.lfg_chart.specs.Filling.{Turn, MeetsAll}
use Rattle.lfg_chart.proofs.fill.sweep.Given as goal

abbrev pub invariant-loop-from : goal.invariant-loop-from
invariant-loop-from l = record { within : l.from ≤ l.initial.table.size; turn : Turn l.rules l.initial.table l.table l.changed; met : l.changed ≡ false → MeetsAll l.rules l.initial.table l.from }

abbrev pub decreases-loop-from : goal.decreases-loop-from
decreases-loop-from l = l.from
