use Rattle.std.proofs.Common.{inr, length, ap, sym, ◌∙◌}
use Rattle.std.proofs.lemmas.List.{length-map}
use Rattle.lfg_model.specs.DraftForms.{draft_form, plain_form, template_form}
use Rattle.lfg_templates.proofs.Fitting.{lead_at, too_much, not_too_much}
use Rattle.lfg_templates.proofs.drafts.expand_fitting.Goals as goal

pub returns-in-Some-clause-refused : goal.returns-in-Some-clause-refused
returns-in-Some-clause-refused c =
    let e = ap length c.list-depth.ensures ∙ sym (length-map c.args.draft.now.templates template_form) in
    inr (too_much (draft_form c.args.draft.now) (length c.list-depth.result.now) c.in_ok-first.first c.in-Some.entry e c.requires.fits c.in_ok-first.ensures c.in-Some.is)

pub plain-requires-clause-leads : goal.plain-requires-clause-leads
plain-requires-clause-leads c =
    let e = ap length c.list-depth.ensures ∙ sym (length-map c.args.draft.now.templates template_form) in
    lead_at (draft_form c.args.draft.now) (length c.list-depth.result.now) e c.requires.fits

pub returns-clause-expanded : goal.returns-clause-expanded
returns-clause-expanded c =
    let e = ap length c.list-depth.ensures ∙ sym (length-map c.args.draft.now.templates template_form) in
    not_too_much (draft_form c.args.draft.now) (plain_form c.in_ok-plain.plain) (length c.list-depth.result.now) c.in_ok-first.first e c.requires.fits c.in_ok-first.ensures c.in_default.is c.in_ok-plain.ensures
