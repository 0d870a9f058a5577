use Rattle.std.proofs.Common.{◌≡◌, ◌+◌, ◌^◌, ◌<◌, ◌++◌, drop}
use Rattle.lfg_model.specs.Trees.{parts_width, parts_facts}
use Rattle.lfg_solve.specs.Views.{parts_from}
use Rattle.lfg_solve.proofs.derivation.+facts.Given as goal

abbrev pub invariant-push_parts_facts-loop-part : goal.invariant-push_parts_facts-loop-part
invariant-push_parts_facts-loop-part l =
    l.initial.at + parts_width (parts_from l.parts) < 2 ^ 32
    → (l.at + parts_width (parts_from (drop l.part-index l.parts)) ≡ l.initial.at + parts_width (parts_from l.parts))
    × (l.facts.items ++ parts_facts l.tokens l.mother (parts_from (drop l.part-index l.parts)) l.at
    ≡ l.initial.facts.items ++ parts_facts l.tokens l.mother (parts_from l.parts) l.initial.at)
