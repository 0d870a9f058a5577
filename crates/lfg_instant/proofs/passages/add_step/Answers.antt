use Rattle.std.proofs.Common.{List}
use Rattle.lfg_instant.specs.Collects.{Collects}
use Rattle.lfg_instant.specs.Ways.{Thing, ThePoint, things_of, JoinsOneOf, step_things}
use Rattle.lfg_instant.proofs.PassageLaws.{Leads, leads_joins, along_places}
use Rattle.lfg_instant.proofs.PlaceLaws.{on_ok}
use Rattle.lfg_instant.proofs.passages.add_step.Goals as goal

pub returns : goal.returns
returns c =
    let things : List Thing = things_of c.args.outline.now.chart.now c.args.outline.now.keys.now c.args.outline.now.facts.now in
    let us : List Thing = step_things c.args.outline.now.grammar.now c.args.outline.now.tokens.now c.args.step.now in
    let old = c.args.passages.now.items in
    let new = c.add_passages_from.new.passages.items in
    on_ok (Collects old new (Leads c.point_place.result c.args.pick c.deref.result.now)) (Collects old new (JoinsOneOf things (ThePoint c.args.step.now.point) us c.args.pick)) c.add_passages_from.result
    (λ h. leads_joins things (ThePoint c.args.step.now.point) us c.point_place.result c.args.pick c.deref.result.now old new c.requires.once c.point_place.ensures
    (along_places things us c.in_ok-places.places.items c.deref.result.now c.deref.ensures.value c.in_ok-places.ensures) h)
    c.add_passages_from.ensures
