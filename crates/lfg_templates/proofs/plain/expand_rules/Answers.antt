use Rattle.std.proofs.Common.{map}
use Rattle.lfg_model.specs.DraftForms.{template_form, rule_form}
use Rattle.lfg_model.specs.Templates.{end, RuleBecomes}
use Rattle.lfg_templates.proofs.Eaching.{each_more}
use Rattle.lfg_templates.proofs.Measures.{In_item}
use Rattle.lfg_templates.proofs.plain.expand_rules.Goals as goal

pub loop-rule-init : goal.loop-rule-init
loop-rule-init c = rw c.new-out.ensures.items end

pub expand_rule-requires : goal.expand_rule-requires
expand_rule-requires c = c.requires c.rule-item.result (In_item c.args.rules.now c.loop-rule.rule-index c.rule-item.result c.rule-item.result c.loop-rule-test.true c.rule-item.is)

pub loop-rule-preserved : goal.loop-rule-preserved
loop-rule-preserved c = each_more (RuleBecomes (map template_form c.args.templates.now)) rule_form rule_form c.args.rules.now c.loop-rule.rule-index c.rule-item.result c.loop-rule.out.items c.in_ok-expand_rule.field-0 c.push.new.self.items
    c.loop-rule-test.true c.rule-item.is c.in_ok-push.ensures.items c.loop-rule.invariant c.in_ok-expand_rule.ensures
