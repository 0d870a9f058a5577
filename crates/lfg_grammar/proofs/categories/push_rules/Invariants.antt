use Rattle.std.proofs.Common.{◌≡◌, ◌++◌, take}
use Rattle.std.specs.List.{flat_map}
use Rattle.lfg_grammar.specs.Categories.{rule_cats}
use Rattle.lfg_grammar.proofs.categories.push_rules.Given as goal

abbrev pub invariant-loop-rule : goal.invariant-loop-rule
invariant-loop-rule l = l.cats.items ≡ l.fn.cats.items ++ flat_map rule_cats (take l.rule-index l.rules)
