use Rattle.std.proofs.Common.{sym, ◌∙◌, ap, length, subst, map, Option, ◌++◌, [], ◌∷◌}
use Rattle.std.specs.Option.{option_map}
use Rattle.lfg_model.specs.DraftForms.{template_form}
use Rattle.lfg_model.specs.TemplateRules.{call_entry, HasOtherArity, call_name}
use Rattle.lfg_templates.specs.Spots.{Spot, Finds}
use Rattle.lfg_templates.specs.Views.{called_of, spot_of}
use Rattle.lfg_templates.proofs.Firsts.{finds_more, finds_same}
use Rattle.lfg_templates.proofs.Naming.{no_other_arity, same_arity}
use Rattle.lfg_templates.proofs.calls.with_other_arity.Goals as goal

pub returns-in_default : goal.returns-in_default
returns-in_default c = λ cs f. finds_same call_entry call_name (HasOtherArity (map template_form c.args.templates.now)) cs (option_map spot_of c.args.first) (called_of c.args.call) f (no_other_arity (map template_form c.args.templates.now) (called_of c.args.call) c.in_default.ensures.first)

pub returns-then-list-call : goal.returns-then-list-call
returns-then-list-call c = λ cs f. finds_same call_entry call_name (HasOtherArity (map template_form c.args.templates.now)) cs (option_map spot_of c.args.first) (called_of c.args.call) f
    (same_arity (map template_form c.args.templates.now) (called_of c.args.call) (template_form c.in-Some.template.now) c.in-Some.ensures.first (sym (ap length c.list.ensures) ∙ c.if-list-call.true))

pub returns : goal.returns
returns c = λ cs f.
    subst (λ (o : Option Spot). Finds call_entry call_name (HasOtherArity (map template_form c.args.templates.now)) (cs ++ called_of c.args.call ∷ []) o) (sym c.earlier.ensures)
    (finds_more call_entry call_name (HasOtherArity (map template_form c.args.templates.now)) cs (option_map spot_of c.args.first) (called_of c.args.call) f
    (record { template = template_form c.in-Some.template.now; named = c.in-Some.ensures.first; other = λ e. c.if-list-call.false (ap length c.list.ensures ∙ e) }))
