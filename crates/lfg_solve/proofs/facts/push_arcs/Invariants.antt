use Rattle.std.proofs.Common.{◌≡◌, ◌++◌, take}
use Rattle.std.specs.List.{flat_map}
use Rattle.lfg_solve.specs.NumberedFacts.{arc_facts}
use Rattle.lfg_solve.proofs.facts.push_arcs.Given as goal

abbrev pub invariant-loop-arc : goal.invariant-loop-arc
invariant-loop-arc l = l.facts.items ≡ l.initial.facts.items ++ flat_map (arc_facts l.values l.nodes) (take l.arc-index l.arcs)
