use Rattle.std.proofs.Common.{ℕ, ◌+◌, ◌<◌}
use Rattle.lfg_instant.specs.Collects.{Collects}
use Rattle.lfg_instant.specs.Ways.{TheEdge, things_of, JoinsOneOf, word_things}
use Rattle.lfg_instant.proofs.PassageLaws.{GivenAt}
use Rattle.lfg_instant.proofs.passages.add_words.Given as goal

abbrev pub invariant-loop-number : goal.invariant-loop-number
invariant-loop-number l =
    Collects l.initial.passages.items l.passages.items
    (λ p. (m : ℕ) × (m < l.number) × GivenAt l.words (λ n x q. JoinsOneOf (things_of l.outline.chart.now l.outline.keys.now l.outline.facts.now) (TheEdge x.edge) (word_things l.outline.grammar.now l.outline.tokens.now x) (l.first + n) q) m p)
