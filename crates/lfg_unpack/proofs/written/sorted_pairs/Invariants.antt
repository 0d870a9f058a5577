use Rattle.std.proofs.Common.{◌≡◌}
use Rattle.lfg_unpack.proofs.written.sorted_pairs.Given as goal

abbrev pub invariant-loop-written : goal.invariant-loop-written
invariant-loop-written l = l.pairs.items ≡ l.yielded
