use Rattle.std.proofs.Common.{◌≡◌, ℕ, take}
use Rattle.lfg_model.specs.Lists.{In}
use Rattle.lfg_instant.specs.Collects.{Collects}
use Rattle.lfg_instant.proofs.passages.add_passages.Given as goal

abbrev pub invariant-loop-place : goal.invariant-loop-place
invariant-loop-place l = Collects l.initial.passages.items l.passages.items (λ p. (i : ℕ) × In i (take l.place-index l.places) × (p ≡ record { from = l.from; pick = l.pick; to = i }))
