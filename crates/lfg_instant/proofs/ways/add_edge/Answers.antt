use Rattle.std.proofs.Common.{◌≡◌, List, [], ◌∷◌, Some}
use Rattle.lfg_instant.specs.Collects.{Collects}
use Rattle.lfg_instant.specs.Ways.{Thing, TheEdge, things_of, IsPlaceIn}
use Rattle.lfg_instant.proofs.PlaceLaws.{add_found, on_ok}
use Rattle.lfg_instant.proofs.ways.add_edge.Goals as goal

pub returns-in-Some : goal.returns-in-Some
returns-in-Some c =
    let things : List Thing = things_of c.args.outline.now.chart.now c.args.outline.now.keys.now c.args.outline.now.facts.now in
    let old = c.args.places.now.items in
    let new = c.add_place.new.places.items in
    rw c.in-Some.is (on_ok (Collects old new (λ i. c.edge_place.result ≡ Some i)) (Collects old new (IsPlaceIn things (TheEdge c.in-Some.edge ∷ []))) c.add_place.result
    (λ h. add_found things (TheEdge c.in-Some.edge) c.edge_place.result old new c.requires.once c.edge_place.ensures h) c.add_place.ensures)
