use Rattle.lfg_chart.specs.Points.{Collects, IsPointBehind}
use Rattle.lfg_chart.proofs.points.add_points_behind.Given as goal

abbrev pub invariant-loop-at : goal.invariant-loop-at
invariant-loop-at l = Collects l.initial.points.items l.points.items (IsPointBehind l.cats l.table l.span l.before l.at)
