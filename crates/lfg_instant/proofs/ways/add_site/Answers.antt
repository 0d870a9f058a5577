use Rattle.std.proofs.Common.{◌≡◌, List, [], ◌∷◌, Some}
use Rattle.lfg_instant.specs.Collects.{Collects}
use Rattle.lfg_instant.specs.Ways.{Thing, TheSite, things_of, IsPlaceIn}
use Rattle.lfg_instant.proofs.PlaceLaws.{add_found, on_ok}
use Rattle.lfg_instant.proofs.ways.add_site.Goals as goal

pub returns : goal.returns
returns c =
    let things : List Thing = things_of c.args.outline.now.chart.now c.args.outline.now.keys.now c.args.outline.now.facts.now in
    let old = c.args.places.now.items in
    let new = c.add_place.new.places.items in
    on_ok (Collects old new (λ i. c.site_place.result ≡ Some i)) (Collects old new (IsPlaceIn things (TheSite c.args.key.now ∷ []))) c.add_place.result
    (λ h. add_found things (TheSite c.args.key.now) c.site_place.result old new c.requires.once c.site_place.ensures h) c.add_place.ensures
