use Rattle.std.proofs.Common.{take}
use Rattle.lfg_chart.specs.Chart.{AreForks}
use Rattle.lfg_chart.proofs.building.all_nexts.Given as goal

abbrev pub invariant-loop-point : goal.invariant-loop-point
invariant-loop-point l = AreForks l.rules l.cats l.table (take l.point-index l.points) l.nexts.items
