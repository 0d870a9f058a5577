use Rattle.std.proofs.Common.{take}
use Rattle.lfg_chart.specs.Points.{Collects}
use Rattle.lfg_chart.specs.Nexts.{NextsBy}
use Rattle.lfg_chart.proofs.nexts.add_by.Given as goal

abbrev pub invariant-loop-link : goal.invariant-loop-link
invariant-loop-link l = Collects l.initial.nexts.items l.nexts.items (NextsBy l.table l.cat l.to (take l.link-index l.links) l.before l.at)
