use Rattle.std.proofs.Common.{ℕ, take}
use Rattle.lfg_model.specs.Lists.{In}
use Rattle.lfg_templates.specs.Ranks.{RanksBelow}
use Rattle.lfg_templates.proofs.ranks.row_falls.Given as goal

abbrev pub invariant-loop-place : goal.invariant-loop-place
invariant-loop-place l = (j : ℕ) → In j (take l.place-index l.row) → RanksBelow l.ranks l.rank j
