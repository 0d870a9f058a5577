use Rattle.std.proofs.Common.{◌≡◌, map, take}
use Rattle.lfg_unify.specs.Collected.{set_in}
use Rattle.lfg_unify.proofs.closing.sets_of.Given as goal

abbrev pub invariant-loop-member : goal.invariant-loop-member
invariant-loop-member l = l.sets.items ≡ map (set_in l.nodes) (take l.member-index l.members)
