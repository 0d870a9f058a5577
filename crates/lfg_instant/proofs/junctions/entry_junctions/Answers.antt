use Rattle.std.proofs.Common.{◌<◌, List, ℕ, length, ap, arith}
use Rattle.lfg_terms.specs.declared.node.Edge.{Edge}
use Rattle.lfg_instant.specs.Junctions.{IsJunction, entry_key, IsEdgeJunction}
use Rattle.lfg_instant.proofs.CollectLaws.{counted_more, place_is}
use Rattle.lfg_instant.proofs.JunctionLaws.{edge_same}
use Rattle.lfg_instant.proofs.junctions.entry_junctions.Goals as goal

pub loop-place-preserved : goal.loop-place-preserved
loop-place-preserved c =
    let edges = c.args.edges.now in
    let lists = c.args.lists.now in
    let m = c.loop-place.place in
    let e : Edge = c.index-edges-place.result in
    let ks : List ℕ = c.index-lists-place.result in
    let key = entry_key c.in_ok-clone.field-0 in
    let many = length c.list.result.now in
    let l : m < length edges = omega arith in
    let k : m < length lists = omega (arith, c.requires) in
    counted_more c.args.junctions.now.items c.loop-place.junctions.items c.push_junction.new.junctions.items (λ i j. IsEdgeJunction edges lists i j) (IsJunction key many) m c.loop-place.invariant c.in_ok-push_junction.ensures
    (edge_same edges lists m e ks key many (place_is edges m e l c.index-edges-place.is) (place_is lists m ks k c.index-lists-place.is) (ap entry_key c.in_ok-clone.ensures.cases) (ap (λ (z : List ℕ). length z) c.list.ensures))
