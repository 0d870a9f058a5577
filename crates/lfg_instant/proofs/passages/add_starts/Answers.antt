use Rattle.std.proofs.Common.{ℕ, List, arith, subst}
use Rattle.lfg_terms.specs.declared.node.Edge.{Edge}
use Rattle.lfg_model.specs.Spots.{point}
use Rattle.lfg_instant.specs.declared.flow.Passage.{Passage}
use Rattle.lfg_instant.specs.Collects.{Collects}
use Rattle.lfg_instant.specs.Ways.{TheEdge, ThePoint, things_of, Joins, IsStart}
use Rattle.lfg_instant.proofs.CollectLaws.{counted_none, place_is}
use Rattle.lfg_instant.proofs.PassageLaws.{GivenAt, given_more, given_all}
use Rattle.lfg_instant.proofs.passages.add_starts.Goals as goal

pub loop-edge-init : goal.loop-edge-init
loop-edge-init c =
    let Q : ℕ → Edge → Passage → Type 0 = (λ n e q. Joins (things_of c.args.outline.now.chart.now c.args.outline.now.keys.now c.args.outline.now.facts.now) (TheEdge e) (ThePoint (point e 0 e.from)) 0 q) in
    counted_none c.args.passages.now.items (GivenAt c.edges-edge-items.result.now Q)

pub loop-edge-preserved : goal.loop-edge-preserved
loop-edge-preserved c =
    let Q : ℕ → Edge → Passage → Type 0 = (λ n e q. Joins (things_of c.args.outline.now.chart.now c.args.outline.now.keys.now c.args.outline.now.facts.now) (TheEdge e) (ThePoint (point e 0 e.from)) 0 q) in
    given_more c.edges-edge-items.result.now Q c.args.passages.now.items c.loop-edge.passages.items c.add_start.new.passages.items c.loop-edge.edge-index c.edge-item.result
    (place_is c.edges-edge-items.result.now c.loop-edge.edge-index c.edge-item.result (omega arith) c.edge-item.is) c.loop-edge.invariant c.in_ok-add_start.ensures

pub returns : goal.returns
returns c =
    let Q : ℕ → Edge → Passage → Type 0 = (λ n e q. Joins (things_of c.args.outline.now.chart.now c.args.outline.now.keys.now c.args.outline.now.facts.now) (TheEdge e) (ThePoint (point e 0 e.from)) 0 q) in
    let P : List Edge → Type 0 = λ es. Collects c.args.passages.now.items c.loop-edge.passages.items (IsStart (things_of c.args.outline.now.chart.now c.args.outline.now.keys.now c.args.outline.now.facts.now) es) in
    subst P c.edges-edge-items.ensures (given_all c.edges-edge-items.result.now Q c.args.passages.now.items c.loop-edge.passages.items c.loop-edge.edge-index (omega arith) c.loop-edge.invariant)
