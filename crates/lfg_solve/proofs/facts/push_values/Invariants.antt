use Rattle.std.proofs.Common.{◌≡◌, ◌++◌, take}
use Rattle.std.specs.List.{flat_map}
use Rattle.lfg_solve.specs.NumberedFacts.{value_facts}
use Rattle.lfg_solve.proofs.facts.push_values.Given as goal

abbrev pub invariant-loop-value : goal.invariant-loop-value
invariant-loop-value l = l.facts.items ≡ l.initial.facts.items ++ flat_map (value_facts l.named l.target) (take l.value-index l.values)
