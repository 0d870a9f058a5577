use Rattle.std.proofs.Common.{◌≡◌, map, take}
use Rattle.lfg_model.specs.DraftForms.{rule_form}
use Rattle.lfg_model.specs.TemplateRules.{rule_head}
use Rattle.lfg_templates.specs.Views.{head_of}
use Rattle.lfg_templates.proofs.heads.rule_heads.Given as goal

abbrev pub invariant-loop-rule : goal.invariant-loop-rule
invariant-loop-rule l = map head_of l.out.items ≡ map rule_head (map rule_form (take l.rule-index l.rules))
