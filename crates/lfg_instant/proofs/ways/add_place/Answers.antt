use Rattle.std.proofs.Common.{◌≡◌, ◌∙◌, Some, sym, ap}
use Rattle.std.proofs.lemmas.Option.{same_Some}
use Rattle.lfg_instant.proofs.CollectLaws.{collects_along, collects_one}
use Rattle.lfg_instant.proofs.ways.add_place.Goals as goal

pub returns-in_ok-push : goal.returns-in_ok-push
returns-in_ok-push c =
    let is = c.in-Some.is in
    collects_along c.args.places.now.items c.push.new.self.items (λ i. i ≡ c.in-Some.place) (λ i. c.args.place ≡ Some i)
    (λ i. ((λ h. is ∙ ap Some (sym h)), (λ h. sym (same_Some c.in-Some.place i (sym is ∙ h))))) (collects_one c.args.places.now.items c.push.new.self.items c.in-Some.place c.in_ok-push.ensures.items)
