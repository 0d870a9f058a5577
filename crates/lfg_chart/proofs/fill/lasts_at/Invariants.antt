use Rattle.std.proofs.Common.{◌≡◌, false, take}
use Rattle.lfg_chart.specs.Filling.{Turn, MeetsLasts}
use Rattle.lfg_chart.proofs.fill.lasts_at.Given as goal

abbrev pub invariant-loop-item : goal.invariant-loop-item
invariant-loop-item l = record { turn : Turn l.rules l.initial.table l.table l.changed; met : l.changed ≡ false → MeetsLasts l.cat (take l.item-index l.items) l.initial.table l.from }
