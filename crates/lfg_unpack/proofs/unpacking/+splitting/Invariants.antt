use Rattle.std.proofs.Common.{ℕ, ◌+◌, ◌*◌, length}
use Rattle.lfg_unpack.proofs.unpacking.+splitting.Given as goal

abbrev pub decreases-add_pairs : goal.decreases-add_pairs
decreases-add_pairs l = 3 * length l.sets.now + 2

abbrev pub decreases-add_pairs_from : goal.decreases-add_pairs_from
decreases-add_pairs_from l = 3 * length l.sets.now + 1

abbrev pub decreases-add_parts : goal.decreases-add_parts
decreases-add_parts l = 3 * length l.others.now + 3
