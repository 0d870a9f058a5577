use Rattle.std.proofs.Common.{ℕ, ◌<◌}
use Rattle.lfg_instant.specs.Collects.{Collects}
use Rattle.lfg_instant.specs.Junctions.{IsSiteJunction}
use Rattle.lfg_instant.proofs.junctions.branch_junctions.Given as goal

abbrev pub invariant-loop-place : goal.invariant-loop-place
invariant-loop-place l = Collects l.fn.junctions.items l.junctions.items (λ j. (m : ℕ) × (m < l.place) × IsSiteJunction l.grammar l.keys m j)
