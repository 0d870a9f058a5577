use Rattle.std.proofs.Common.{List, [], ◌∷◌, map, ap}
use Rattle.lfg_terms.specs.declared.node.Edge.{Edge}
use Rattle.lfg_terms.specs.declared.node.Fact.{Fact}
use Rattle.lfg_model.specs.declared.point.Point.{Point}
use Rattle.lfg_packed.specs.declared.key.ChoiceKey.{ChoiceKey}
use Rattle.lfg_instant.specs.Ways.{Thing, TheEdge, ThePoint, TheSite, TheFact, things_of}
use Rattle.lfg_instant.proofs.PlaceLaws.{all_four}
use Rattle.lfg_instant.proofs.ways.step_places.Goals as goal

pub returns : goal.returns
returns c =
    let things : List Thing = things_of c.args.outline.now.chart.now c.args.outline.now.keys.now c.args.outline.now.facts.now in
    all_four things _ _ _ _ _ _ _ _ c.new-places.result.items c.add_point.new.places.items c.add_site.new.places.items c.add_edge.new.places.items c.add_fact.new.places.items
    c.new-places.ensures.items
    (ap (λ (p : Point). ThePoint p ∷ []) c.in_ok-point_behind.ensures)
    (ap (λ (k : ChoiceKey). TheSite k ∷ []) (c.in_ok-item_key.ensures c.args.outline.now.grammar.now c.args.outline.now.tokens.now))
    (ap (λ (es : List Edge). map TheEdge es) c.in_ok-daughter.ensures)
    (ap (λ (fs : List Fact). map TheFact fs) c.in_ok-under_fact.ensures)
    c.in_ok-add_point.ensures c.in_ok-add_site.ensures c.in_ok-add_edge.ensures c.in_ok-add_fact.ensures
