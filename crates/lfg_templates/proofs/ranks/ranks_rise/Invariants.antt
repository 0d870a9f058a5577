use Rattle.std.proofs.Common.{ℕ, ◌<◌, map}
use Rattle.lfg_model.specs.Lists.{In}
use Rattle.lfg_templates.specs.Graphs.{row_at}
use Rattle.lfg_templates.specs.Ranks.{RanksBelow, rank_of}
use Rattle.lfg_templates.proofs.ranks.ranks_rise.Given as goal

abbrev pub invariant-loop-place : goal.invariant-loop-place
invariant-loop-place l = (i j : ℕ) → i < l.place → In j (row_at (map (λ r. r.items) l.rows) i) → 0 < rank_of l.ranks j → RanksBelow l.ranks (rank_of l.ranks j) i
