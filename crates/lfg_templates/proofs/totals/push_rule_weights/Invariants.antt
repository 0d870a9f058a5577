use Rattle.std.proofs.Common.{◌≡◌, ◌++◌, map, take}
use Rattle.lfg_model.specs.DraftForms.{template_form, rule_form}
use Rattle.lfg_templates.specs.Counts.{call_count, rule_count, capped_weight}
use Rattle.lfg_templates.specs.Views.{weight_of}
use Rattle.lfg_templates.proofs.totals.push_rule_weights.Given as goal

abbrev pub invariant-loop-rule : goal.invariant-loop-rule
invariant-loop-rule l = map weight_of l.out.items ≡ map weight_of l.initial.out.items
    ++ map (λ x. capped_weight (rule_count (call_count (map template_form l.templates) l.depth) (rule_form x))) (take l.rule-index l.rules)
