use Rattle.lfg_instant.specs.Ways.{TheEdge}
use Rattle.lfg_instant.proofs.WayLaws.{edge_place, is_there}
use Rattle.lfg_instant.proofs.ways.edge_place.Goals as goal

pub returns-in-None : goal.returns-in-None
returns-in-None c = λ i. c.in-None.ensures.absent (is_there c.args.outline.now.chart.now c.args.outline.now.keys.now c.args.outline.now.facts.now (TheEdge c.args.edge.now) i)

pub returns-in-Some : goal.returns-in-Some
returns-in-Some c = edge_place c.args.outline.now.chart.now c.args.outline.now.keys.now c.args.outline.now.facts.now c.in-Some.place c.args.edge.now c.in-Some.ensures.found
