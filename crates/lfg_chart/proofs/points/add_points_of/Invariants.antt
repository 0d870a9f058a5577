use Rattle.lfg_chart.specs.Points.{Collects, IsPointFrom}
use Rattle.lfg_chart.proofs.points.add_points_of.Given as goal

abbrev pub invariant-loop-before : goal.invariant-loop-before
invariant-loop-before l = Collects l.fn.points.items l.points.items (IsPointFrom l.cats l.table l.span l.before)
