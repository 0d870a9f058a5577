use Rattle.std.proofs.Common.{◌≡◌, false}
use Rattle.lfg_chart.specs.Filling.{Turn, MeetsRules}
use Rattle.lfg_chart.proofs.fill.line.Given as goal

abbrev pub invariant-loop-cat : goal.invariant-loop-cat
invariant-loop-cat l = record { turn : Turn l.rules l.initial.table l.table l.changed; met : l.changed ≡ false → MeetsRules l.rules l.cat l.initial.table l.from }
