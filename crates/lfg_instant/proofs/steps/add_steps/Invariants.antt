use Rattle.std.proofs.Common.{ℕ, ◌<◌}
use Rattle.lfg_instant.specs.Collects.{Collects}
use Rattle.lfg_instant.proofs.StepLaws.{StepBy}
use Rattle.lfg_instant.proofs.steps.add_steps.Given as goal

abbrev pub invariant-loop-number : goal.invariant-loop-number
invariant-loop-number l = Collects l.fn.steps.items l.steps.items (λ st. (m : ℕ) × (m < l.number) × StepBy l.place l.point l.ways m st)
