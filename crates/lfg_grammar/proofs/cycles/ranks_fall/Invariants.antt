use Rattle.std.proofs.Common.{ℕ, ◌<◌}
use Rattle.lfg_rulegraph.specs.Followers.{IsAt}
use Rattle.lfg_grammar.specs.Cycles.{RanksBelow, rank_of}
use Rattle.lfg_grammar.proofs.cycles.ranks_fall.Given as goal

abbrev pub invariant-loop-place : goal.invariant-loop-place
invariant-loop-place l = (i j : ℕ) → i < l.place → 0 < rank_of l.ranks i → IsAt l.next i j → RanksBelow l.ranks (rank_of l.ranks i) j
