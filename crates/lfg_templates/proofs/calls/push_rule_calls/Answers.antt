use Rattle.std.proofs.Common.{arith, map}
use Rattle.lfg_model.specs.DraftForms.{rule_form}
use Rattle.lfg_model.specs.TemplateRules.{rule_calls}
use Rattle.lfg_templates.specs.Views.{called_of}
use Rattle.lfg_templates.proofs.Gathering.{gathered, flat_map-map}
use Rattle.lfg_templates.proofs.calls.push_rule_calls.Goals as goal

pub returns : goal.returns
returns c = gathered (λ x. rule_calls (rule_form x)) c.args.rules.now c.loop-rule.rule-index (map called_of c.args.out.now.items) (map called_of c.loop-rule.out.items) _ (omega arith) (flat_map-map rule_calls rule_form c.args.rules.now) c.loop-rule.invariant
