use Rattle.std.proofs.Common.{◌≡◌, ◌<◌, ◌∙◌, List, Some, slice_get, length, ap, refl, sym, arith}
use Rattle.lfg_model.specs.declared.point.Point.{Point}
use Rattle.lfg_model.specs.Charts.{Fork, points_of}
use Rattle.lfg_packed.specs.declared.key.ChoiceKey.{ChoiceKey}
use Rattle.lfg_instant.specs.Junctions.{IsJunction, next_key, IsForkJunction}
use Rattle.lfg_instant.proofs.CollectLaws.{counted_more, place_is}
use Rattle.lfg_instant.proofs.JunctionLaws.{fork_point, fork_same}
use Rattle.lfg_instant.proofs.junctions.next_junctions.Goals as goal

pub loop-place-preserved : goal.loop-place-preserved
loop-place-preserved c =
    let forks = c.args.chart.now.forks in
    let m = c.loop-place.place in
    let p : Point = c.point-item.result in
    let ps : List Point = c.points-point-items.result.now in
    let fork : Fork = (c.alternatives_at.ensures.0, c.alternatives_at.result.now) in
    let at : slice_get forks m ≡ Some fork = c.alternatives_at.ensures.1 in
    let key : ChoiceKey = record { edge = c.in_ok-clone.field-0; rank = 0; from = p.at; to = 0; item = p.occ; place = 0 } in
    let many = length c.alternatives_at.result.now in
    let l : m < length ps = omega arith in
    let there : slice_get (points_of forks) m ≡ Some p = ap (λ (z : List Point). slice_get z m) (sym c.points-point-items.ensures) ∙ place_is ps m p l c.point-item.is in
    let same : c.in_ok-clone.field-0 ≡ p.edge = c.in_ok-clone.ensures.cases in
    let is : key ≡ next_key p = λ i. record { edge = same i; rank = 0; from = p.at; to = 0; item = p.occ; place = 0 } in
    counted_more c.args.junctions.now.items c.loop-place.junctions.items c.push_junction.new.junctions.items (λ i j. IsForkJunction forks i j) (IsJunction key many) m c.loop-place.invariant c.in_ok-push_junction.ensures
    (fork_same forks m fork key many at (is ∙ ap next_key (fork_point forks m p fork there at)) refl)
