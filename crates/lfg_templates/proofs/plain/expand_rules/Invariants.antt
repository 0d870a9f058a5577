use Rattle.std.proofs.Common.{map, take}
use Rattle.lfg_model.specs.DraftForms.{template_form, rule_form}
use Rattle.lfg_model.specs.Templates.{Each, RuleBecomes}
use Rattle.lfg_templates.proofs.plain.expand_rules.Given as goal

abbrev pub invariant-loop-rule : goal.invariant-loop-rule
invariant-loop-rule l = Each (RuleBecomes (map template_form l.templates)) (map rule_form (take l.rule-index l.rules)) (map rule_form l.out.items)
