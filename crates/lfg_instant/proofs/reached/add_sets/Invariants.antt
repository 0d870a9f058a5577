use Rattle.std.proofs.Common.{◌≡◌, ◌++◌, take}
use Rattle.lfg_instant.proofs.reached.add_sets.Given as goal

abbrev pub invariant-loop-set : goal.invariant-loop-set
invariant-loop-set l = l.picks.items ≡ l.initial.picks.items ++ take l.set-index l.sets
