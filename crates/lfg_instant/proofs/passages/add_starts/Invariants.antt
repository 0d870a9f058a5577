use Rattle.std.proofs.Common.{ℕ, ◌<◌}
use Rattle.lfg_model.specs.Spots.{point}
use Rattle.lfg_instant.specs.Collects.{Collects}
use Rattle.lfg_instant.specs.Ways.{TheEdge, ThePoint, things_of, Joins}
use Rattle.lfg_instant.proofs.PassageLaws.{GivenAt}
use Rattle.lfg_instant.proofs.passages.add_starts.Given as goal

abbrev pub invariant-loop-edge : goal.invariant-loop-edge
invariant-loop-edge l =
    Collects l.initial.passages.items l.passages.items
    (λ p. (m : ℕ) × (m < l.edge-index) × GivenAt l.edge-items (λ n e q. Joins (things_of l.outline.chart.now l.outline.keys.now l.outline.facts.now) (TheEdge e) (ThePoint (point e 0 e.from)) 0 q) m p)
