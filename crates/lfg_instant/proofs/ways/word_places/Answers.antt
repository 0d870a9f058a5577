use Rattle.std.proofs.Common.{List, [], ◌∷◌, map, ap}
use Rattle.lfg_terms.specs.declared.node.Fact.{Fact}
use Rattle.lfg_packed.specs.declared.key.ChoiceKey.{ChoiceKey}
use Rattle.lfg_instant.specs.Ways.{Thing, TheSite, TheFact, things_of}
use Rattle.lfg_instant.proofs.PlaceLaws.{all_two}
use Rattle.lfg_instant.proofs.ways.word_places.Goals as goal

pub returns : goal.returns
returns c =
    let things : List Thing = things_of c.args.outline.now.chart.now c.args.outline.now.keys.now c.args.outline.now.facts.now in
    all_two things _ _ _ _ c.new-places.result.items c.add_site.new.places.items c.add_fact.new.places.items
    c.new-places.ensures.items
    (ap (λ (k : ChoiceKey). TheSite k ∷ []) c.in_ok-entry_key.ensures)
    (ap (λ (fs : List Fact). map TheFact fs) c.in_ok-word_fact.ensures)
    c.in_ok-add_site.ensures c.in_ok-add_fact.ensures
