use Rattle.std.proofs.Common.{take, []}
use Rattle.lfg_chart.specs.Points.{Collects, AreEdges}
use Rattle.lfg_chart.proofs.points.edges_of.Given as goal

abbrev pub invariant-loop-span : goal.invariant-loop-span
invariant-loop-span l = Collects [] l.edges.items (AreEdges l.cats (take l.span-index l.spans))
