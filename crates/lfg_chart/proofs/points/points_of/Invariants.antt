use Rattle.std.proofs.Common.{take, []}
use Rattle.lfg_chart.specs.Points.{Collects, ArePoints}
use Rattle.lfg_chart.proofs.points.points_of.Given as goal

abbrev pub invariant-loop-span : goal.invariant-loop-span
invariant-loop-span l = Collects [] l.points.items (ArePoints l.rules l.cats l.table (take l.span-index l.spans))
