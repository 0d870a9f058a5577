use Rattle.std.proofs.Common.{sym, ap, ◌∙◌, subst, map, Option, ◌++◌}
use Rattle.std.specs.Option.{option_map}
use Rattle.lfg_model.specs.DraftForms.{rule_form, template_form, word_form}
use Rattle.lfg_model.specs.TemplateRules.{Repeated, headed, head_entry, rule_head, template_head, reading_head, head_name}
use Rattle.lfg_templates.specs.Spots.{Spot, Finds}
use Rattle.lfg_templates.specs.Views.{head_of, spot_of}
use Rattle.lfg_templates.proofs.Firsts.{finds_joined}
use Rattle.lfg_templates.proofs.Heading.{finds_at}
use Rattle.lfg_templates.proofs.heads.repeated.Goals as goal

pub returns : goal.returns
returns c =
    let r = finds_at (option_map spot_of c.in_ok-first_rule.first_rule) _ _ (ap (map head_of) c.deref.ensures.value ∙ c.in_ok-rules.ensures ∙ ap (λ rs. map rule_head (map rule_form rs)) c.list.ensures) c.in_ok-first_rule.ensures in
    let t = finds_at (option_map spot_of c.in_ok-first_template.first_template) _ _ (ap (map head_of) c.deref-2.ensures.value ∙ c.in_ok-templates.ensures ∙ ap (λ ts. map template_head (map template_form ts)) c.list-2.ensures) c.in_ok-first_template.ensures in
    let e = finds_at (option_map spot_of c.in_ok-first_reading.first_reading) _ _ (ap (map head_of) c.deref-3.ensures.value ∙ c.in_ok-readings.ensures ∙ ap (λ es. map reading_head (map word_form es)) c.list-3.ensures) c.in_ok-first_reading.ensures in
    let first = subst (λ (o : Option Spot). Finds head_entry head_name Repeated ((headed (map rule_head (map rule_form c.args.draft.now.rules))) ++ (headed (map template_head (map template_form c.args.draft.now.templates)))) o) (sym c.earlier-first.ensures)
    (finds_joined head_entry head_name Repeated (headed (map rule_head (map rule_form c.args.draft.now.rules))) (headed (map template_head (map template_form c.args.draft.now.templates))) (option_map spot_of c.in_ok-first_rule.first_rule) (option_map spot_of c.in_ok-first_template.first_template) r t) in
    subst (λ (o : Option Spot). Finds head_entry head_name Repeated ((headed (map rule_head (map rule_form c.args.draft.now.rules))) ++ (headed (map template_head (map template_form c.args.draft.now.templates))) ++ (headed (map reading_head (map word_form c.args.draft.now.entries)))) o) (sym c.earlier.ensures)
    (finds_joined head_entry head_name Repeated ((headed (map rule_head (map rule_form c.args.draft.now.rules))) ++ (headed (map template_head (map template_form c.args.draft.now.templates)))) (headed (map reading_head (map word_form c.args.draft.now.entries))) (option_map spot_of c.earlier-first.result) (option_map spot_of c.in_ok-first_reading.first_reading) first e)
