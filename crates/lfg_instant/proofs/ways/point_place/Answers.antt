use Rattle.std.proofs.Common.{ap, length, ◌+◌}
use Rattle.lfg_terms.specs.declared.node.Edge.{Edge}
use Rattle.std.proofs.Common.{List}
use Rattle.lfg_instant.specs.Ways.{ThePoint}
use Rattle.lfg_instant.proofs.WayLaws.{point_place, is_there}
use Rattle.lfg_instant.proofs.ways.point_place.Goals as goal

pub returns-in-None : goal.returns-in-None
returns-in-None c = λ i. c.in-None.ensures.absent (is_there c.args.outline.now.chart.now c.args.outline.now.keys.now c.args.outline.now.facts.now (ThePoint c.args.point.now) i)

pub returns-in-Some : goal.returns-in-Some
returns-in-Some c =
    point_place c.args.outline.now.chart.now c.args.outline.now.keys.now c.args.outline.now.facts.now c.in-Some.place _ c.args.point.now
    (ap (λ (es : List Edge). length es + c.in-Some.place) c.edges.ensures) c.in-Some.ensures.found
