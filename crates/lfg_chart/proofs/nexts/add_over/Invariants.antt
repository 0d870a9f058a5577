use Rattle.lfg_chart.specs.Points.{Collects}
use Rattle.lfg_chart.specs.Nexts.{IsNextOver}
use Rattle.lfg_chart.proofs.nexts.add_over.Given as goal

abbrev pub invariant-loop-mid : goal.invariant-loop-mid
invariant-loop-mid l = Collects l.initial.nexts.items l.nexts.items (IsNextOver l.table l.cat l.to l.link l.below l.at l.mid)
