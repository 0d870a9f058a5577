use Rattle.std.proofs.Common.{◌≡◌, false, take}
use Rattle.lfg_chart.specs.Filling.{Turn, MeetsLinks}
use Rattle.lfg_chart.proofs.fill.links_at.Given as goal

abbrev pub invariant-loop-link : goal.invariant-loop-link
invariant-loop-link l = record { turn : Turn l.rules l.initial.table l.table l.changed; met : l.changed ≡ false → MeetsLinks l.cat (take l.link-index l.links) l.initial.table l.from }
