use Rattle.std.proofs.Common.{rules, sym, ◌∙◌, ap, map, length, ◌<◌, subst, List}
use Rattle.lfg_terms.specs.declared.draft.Template.{Template}
use Rattle.lfg_model.specs.Lists.{In}
use Rattle.lfg_templates.proofs.Measures.{In_item}
use Rattle.lfg_templates.proofs.Placing.{found_within, found_named, missing_named}
use Rattle.lfg_templates.proofs.templates.Templates.named.Goals as goal

pub bounds-list-place : goal.bounds-list-place
bounds-list-place c = rw c.list.ensures (found_within c.args.self.now c.args.name.now c.in-Some.place (sym c.first_place.ensures ∙ c.in-Some.is))

pub offset_bounds-list-place : goal.offset_bounds-list-place
offset_bounds-list-place c =
    let b : c.in-Some.place < length c.list.result.now = rw c.list.ensures (found_within c.args.self.now c.args.name.now c.in-Some.place (sym c.first_place.ensures ∙ c.in-Some.is)) in
    search rules

pub returns-in-Some-clause-among : goal.returns-in-Some-clause-among
returns-in-Some-clause-among c =
    let b : c.in-Some.place < length c.list.result.now = rw c.list.ensures (found_within c.args.self.now c.args.name.now c.in-Some.place (sym c.first_place.ensures ∙ c.in-Some.is)) in
    subst (λ (ts : List Template). In c.index-list-place.result ts) c.list.ensures (In_item c.list.result.now c.in-Some.place c.index-list-place.result c.index-list-place.result b c.index-list-place.is)

pub returns-in-Some-clause-first : goal.returns-in-Some-clause-first
returns-in-Some-clause-first c = found_named c.args.self.now c.args.name.now c.in-Some.place c.index-list-place.result (sym c.first_place.ensures ∙ c.in-Some.is) (rw (← c.list.ensures) c.index-list-place.is)

pub returns-in-None-clause-first : goal.returns-in-None-clause-first
returns-in-None-clause-first c = missing_named c.args.self.now c.args.name.now (sym c.first_place.ensures ∙ c.in-None.is)
