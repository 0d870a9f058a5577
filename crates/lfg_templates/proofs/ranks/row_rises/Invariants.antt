use Rattle.std.proofs.Common.{ℕ, ◌<◌, take}
use Rattle.lfg_model.specs.Lists.{In}
use Rattle.lfg_templates.specs.Ranks.{rank_of}
use Rattle.lfg_templates.proofs.ranks.row_rises.Given as goal

abbrev pub invariant-loop-place : goal.invariant-loop-place
invariant-loop-place l = (j : ℕ) → In j (take l.place-index l.row) → 0 < rank_of l.ranks j → (0 < l.rank) × (l.rank < rank_of l.ranks j)
