use Rattle.std.proofs.Common.{ap, length, ◌≡◌, arith}
use Rattle.lfg_model.specs.Charts.{points_of}
use Rattle.lfg_instant.specs.Ways.{TheSite}
use Rattle.lfg_instant.proofs.WayLaws.{site_place, is_there}
use Rattle.lfg_instant.proofs.ways.site_place.Goals as goal

pub returns-in-None : goal.returns-in-None
returns-in-None c = λ i. c.in-None.ensures.absent c.requires.keys_ascend (is_there c.args.outline.now.chart.now c.args.outline.now.keys.now c.args.outline.now.facts.now (TheSite c.args.key.now) i)

pub returns-in-Some : goal.returns-in-Some
returns-in-Some c =
    let e : length c.edges.result.now ≡ length c.args.outline.now.chart.now.edges = ap length c.edges.ensures in
    let p : length c.points.result.now ≡ length (points_of c.args.outline.now.chart.now.forks) = ap length c.points.ensures in
    site_place c.args.outline.now.chart.now c.args.outline.now.keys.now c.args.outline.now.facts.now c.in-Some.place _ c.args.key.now (omega (arith, e, p)) c.in-Some.ensures.found
