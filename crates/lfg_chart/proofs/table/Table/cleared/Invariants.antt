use Rattle.lfg_chart.specs.Cells.{AreCleared}
use Rattle.lfg_chart.proofs.table.Table.cleared.Given as goal

abbrev pub invariant-loop-part : goal.invariant-loop-part
invariant-loop-part l = AreCleared l.self.parts.items l.parts.items l.part-index
