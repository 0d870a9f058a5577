use Rattle.std.proofs.Common.{ℕ, ◌<◌, []}
use Rattle.lfg_instant.specs.Collects.{Collects}
use Rattle.lfg_instant.proofs.StepLaws.{WordAt}
use Rattle.lfg_instant.proofs.steps.words_of.Given as goal

abbrev pub invariant-loop-place : goal.invariant-loop-place
invariant-loop-place l = Collects [] l.words.items (λ w. (m : ℕ) × (m < l.place) × WordAt l.edges l.lists m w)
