use Rattle.std.proofs.Common.{ℕ, ◌<◌, []}
use Rattle.lfg_instant.specs.Collects.{Collects}
use Rattle.lfg_instant.proofs.StepLaws.{StepAt}
use Rattle.lfg_instant.proofs.steps.steps_of.Given as goal

abbrev pub invariant-loop-place : goal.invariant-loop-place
invariant-loop-place l = Collects [] l.steps.items (λ st. (m : ℕ) × (m < l.place) × StepAt l.chart.forks m st)
