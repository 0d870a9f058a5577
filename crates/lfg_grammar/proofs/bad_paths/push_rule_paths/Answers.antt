use Rattle.std.proofs.Common.{arith, map}
use Rattle.lfg_model.specs.DraftForms.{rule_form}
use Rattle.lfg_model.specs.Loads.{rule_paths}
use Rattle.lfg_grammar.specs.BadPaths.{written_at}
use Rattle.lfg_templates.proofs.Gathering.{gathered, flat_map-map}
use Rattle.lfg_grammar.proofs.bad_paths.push_rule_paths.Goals as goal

pub returns : goal.returns
returns c = gathered (λ x. rule_paths (rule_form x)) c.args.rules.now c.loop-rule.rule-index (map written_at c.args.out.now.items) (map written_at c.loop-rule.out.items) _ (omega arith) (flat_map-map rule_paths rule_form c.args.rules.now) c.loop-rule.invariant
