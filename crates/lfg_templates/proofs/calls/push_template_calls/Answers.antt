use Rattle.std.proofs.Common.{arith, map}
use Rattle.lfg_model.specs.DraftForms.{template_form}
use Rattle.lfg_model.specs.TemplateRules.{template_calls}
use Rattle.lfg_templates.specs.Views.{called_of}
use Rattle.lfg_templates.proofs.Gathering.{gathered, flat_map-map}
use Rattle.lfg_templates.proofs.calls.push_template_calls.Goals as goal

pub returns : goal.returns
returns c = gathered (λ x. template_calls (template_form x)) c.args.templates.now c.loop-template.template-index (map called_of c.args.out.now.items) (map called_of c.loop-template.out.items) _ (omega arith) (flat_map-map template_calls template_form c.args.templates.now) c.loop-template.invariant
