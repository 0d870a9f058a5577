use Rattle.std.proofs.Common.{rules, ◌≡◌, ℕ, Some, sym, ap, ◌∙◌, subst, length}
use Rattle.std.specs.Option.{option_copied}
use Rattle.indexmap.specs.IndexMap.{Updates}
use Rattle.lfg_model.specs.Terms.{Name, same_name}
use Rattle.lfg_templates.proofs.Placing.{places_kept, places_added}
use Rattle.lfg_templates.proofs.templates.add_place.Goals as goal

pub returns-in-Some : goal.returns-in-Some
returns-in-Some c = λ ts l h. places_kept ts c.args.template.now c.args.places.now c.in-Some.field-0.now (sym c.get.ensures.value ∙ ap option_copied c.in-Some.is) h

pub returns : goal.returns
returns c = λ ts l h.
    let copy : c.in_ok-clone.field-0 ≡ c.args.template.now.name = search rules in
    places_added ts c.args.template.now c.args.places.now c.insert.new.self (sym c.get.ensures.value ∙ ap option_copied c.in_default.is) h
    (subst (λ (name : Name). Updates same_name c.args.places.now c.insert.new.self name (Some (length ts))) copy
    (subst (λ (n : ℕ). Updates same_name c.args.places.now c.insert.new.self c.in_ok-clone.field-0 (Some n)) (sym l) c.in_ok-insert.ensures.updates))
