use Rattle.std.proofs.Common.{List, ℕ, take}
use Rattle.lfg_model.specs.Graphs.{AreItems}
use Rattle.lfg_model.specs.Lists.{In}
use Rattle.lfg_chart.proofs.checked.is_graph.Given as goal

abbrev pub invariant-loop-items : goal.invariant-loop-items
invariant-loop-items l = (ps : List ℕ) → In ps (take l.items-index l.next) → AreItems l.graph.size ps
