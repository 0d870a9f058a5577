use Rattle.std.proofs.Common.{List, [], ◌∷◌, ap}
use Rattle.lfg_terms.specs.declared.node.Edge.{Edge}
use Rattle.lfg_model.specs.Spots.{point}
use Rattle.lfg_instant.specs.Collects.{Collects}
use Rattle.lfg_instant.specs.Ways.{Thing, TheEdge, ThePoint, things_of, Joins}
use Rattle.lfg_instant.proofs.PassageLaws.{Leads, leads_joins, joins_one, along_places}
use Rattle.lfg_instant.proofs.PlaceLaws.{on_ok, all_one}
use Rattle.lfg_instant.proofs.passages.add_start.Goals as goal

pub returns : goal.returns
returns c =
    let things : List Thing = things_of c.args.outline.now.chart.now c.args.outline.now.keys.now c.args.outline.now.facts.now in
    let e : Edge = c.args.edge.now in
    let us : List Thing = ThePoint (point e 0 e.from) ∷ [] in
    let old = c.args.passages.now.items in
    let new = c.add_passages_from.new.passages.items in
    on_ok (Collects old new (Leads c.edge_place.result 0 c.deref.result.now)) (Collects old new (Joins things (TheEdge e) (ThePoint (point e 0 e.from)) 0)) c.add_passages_from.result
    (λ h. joins_one things (TheEdge e) (ThePoint (point e 0 e.from)) 0 old new (leads_joins things (TheEdge e) us c.edge_place.result 0 c.deref.result.now old new c.requires.once c.edge_place.ensures
    (along_places things us c.add_point.new.places.items c.deref.result.now c.deref.ensures.value
    (all_one things _ us c.new-places.result.items c.add_point.new.places.items c.new-places.ensures.items (ap (λ (f : Edge). ThePoint (point f 0 e.from) ∷ []) c.in_ok-clone.ensures.cases) c.in_ok-add_point.ensures)) h))
    c.add_passages_from.ensures
