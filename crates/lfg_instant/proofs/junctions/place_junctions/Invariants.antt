use Rattle.std.proofs.Common.{ℕ, ◌<◌}
use Rattle.lfg_instant.specs.Collects.{Collects}
use Rattle.lfg_instant.specs.Junctions.{IsNumberJunction}
use Rattle.lfg_instant.proofs.junctions.place_junctions.Given as goal

abbrev pub invariant-loop-place : goal.invariant-loop-place
invariant-loop-place l = Collects l.fn.junctions.items l.junctions.items (λ j. (m : ℕ) × (m < l.place) × IsNumberJunction l.key l.numbers m j)
