use Rattle.std.proofs.Common.{◌≡◌, ◌++◌, drop}
use Rattle.lfg_solve.specs.NumberedFacts.{function_facts}
use Rattle.lfg_solve.proofs.facts.push_functions.Given as goal

abbrev pub invariant-loop-place : goal.invariant-loop-place
invariant-loop-place l =
    l.facts.items ++ function_facts l.relation l.named l.place (drop l.place l.functions)
    ≡ l.initial.facts.items ++ function_facts l.relation l.named 0 l.functions
