use Rattle.std.proofs.Common.{ℕ, ◌+◌, ◌<◌}
use Rattle.lfg_instant.specs.Collects.{Collects}
use Rattle.lfg_instant.specs.Ways.{ThePoint, things_of, JoinsOneOf, step_things}
use Rattle.lfg_instant.proofs.PassageLaws.{GivenAt}
use Rattle.lfg_instant.proofs.passages.add_steps.Given as goal

abbrev pub invariant-loop-number : goal.invariant-loop-number
invariant-loop-number l =
    Collects l.initial.passages.items l.passages.items
    (λ p. (m : ℕ) × (m < l.number) × GivenAt l.steps (λ n x q. JoinsOneOf (things_of l.outline.chart.now l.outline.keys.now l.outline.facts.now) (ThePoint x.point) (step_things l.outline.grammar.now l.outline.tokens.now x) (l.first + n) q) m p)
