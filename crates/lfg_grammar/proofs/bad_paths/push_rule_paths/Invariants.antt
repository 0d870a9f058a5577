use Rattle.std.proofs.Common.{◌≡◌, ◌++◌, map, take}
use Rattle.std.specs.List.{flat_map}
use Rattle.lfg_model.specs.DraftForms.{rule_form}
use Rattle.lfg_model.specs.Loads.{rule_paths}
use Rattle.lfg_grammar.specs.BadPaths.{written_at}
use Rattle.lfg_grammar.proofs.bad_paths.push_rule_paths.Given as goal

abbrev pub invariant-loop-rule : goal.invariant-loop-rule
invariant-loop-rule l = map written_at l.out.items ≡ map written_at l.initial.out.items ++ flat_map (λ x. rule_paths (rule_form x)) (take l.rule-index l.rules)
