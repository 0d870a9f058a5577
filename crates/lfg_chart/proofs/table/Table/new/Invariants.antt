use Rattle.lfg_chart.specs.Tables.{HasParts}
use Rattle.lfg_chart.proofs.table.Table.new.Given as goal

abbrev pub invariant-loop-rule : goal.invariant-loop-rule
invariant-loop-rule l = HasParts l.rules l.rule-index l.size l.parts.items
