use Rattle.std.proofs.Common.{ℕ, ◌<◌}
use Rattle.lfg_instant.specs.Collects.{Collects}
use Rattle.lfg_instant.proofs.StepLaws.{WordBy}
use Rattle.lfg_instant.proofs.steps.add_words.Given as goal

abbrev pub invariant-loop-number : goal.invariant-loop-number
invariant-loop-number l = Collects l.fn.words.items l.words.items (λ w. (m : ℕ) × (m < l.number) × WordBy l.place l.edge l.entries m w)
