use Rattle.std.proofs.Common.{sym, subst, map, Option, ◌++◌, [], ◌∷◌}
use Rattle.std.specs.Option.{option_map}
use Rattle.lfg_model.specs.DraftForms.{template_form}
use Rattle.lfg_model.specs.TemplateRules.{call_entry, IsUndefined, call_name}
use Rattle.lfg_templates.specs.Spots.{Spot, Finds}
use Rattle.lfg_templates.specs.Views.{called_of, spot_of}
use Rattle.lfg_templates.proofs.Firsts.{finds_more, finds_same}
use Rattle.lfg_templates.proofs.Naming.{not_undefined}
use Rattle.lfg_templates.proofs.calls.with_undefined.Goals as goal

pub returns-in_default : goal.returns-in_default
returns-in_default c = λ cs f.
    subst (λ (o : Option Spot). Finds call_entry call_name (IsUndefined (map template_form c.args.templates.now)) (cs ++ called_of c.args.call ∷ []) o) (sym c.earlier.ensures)
    (finds_more call_entry call_name (IsUndefined (map template_form c.args.templates.now)) cs (option_map spot_of c.args.first) (called_of c.args.call) f c.in_default.ensures.first)

pub returns : goal.returns
returns c = λ cs f. finds_same call_entry call_name (IsUndefined (map template_form c.args.templates.now)) cs (option_map spot_of c.args.first) (called_of c.args.call) f (not_undefined (map template_form c.args.templates.now) (called_of c.args.call) (template_form c.in-Some.field-0.now) c.in-Some.ensures.first)
