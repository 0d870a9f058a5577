use Rattle.std.proofs.Common.{◌≡◌, ◌++◌, take}
use Rattle.std.specs.List.{flat_map}
use Rattle.lfg_solve.specs.NumberedFacts.{member_facts}
use Rattle.lfg_solve.proofs.facts.push_members.Given as goal

abbrev pub invariant-loop-member : goal.invariant-loop-member
invariant-loop-member l = l.facts.items ≡ l.initial.facts.items ++ flat_map (member_facts l.values l.nodes) (take l.member-index l.members)
