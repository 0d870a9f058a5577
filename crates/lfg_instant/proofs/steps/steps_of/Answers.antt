use Rattle.std.proofs.Common.{arith, ◌≡◌, Some, [], slice_get, length, ap, sym, subst, ◌∙◌}
use Rattle.std.proofs.lemmas.Option.{same_Some, slice_get-map}
use Rattle.std.proofs.lemmas.List.{length-map}
use Rattle.std.specs.Option.{option_map}
use Rattle.lfg_model.specs.declared.point.Point.{Point}
use Rattle.lfg_model.specs.Charts.{Fork, points_of}
use Rattle.lfg_instant.specs.Steps.{IsStepAt, IsStepOf}
use Rattle.lfg_instant.proofs.CollectLaws.{counted_none, counted_more, collects_along, collected, place_is}
use Rattle.lfg_instant.proofs.StepLaws.{StepAt, at_point, steps_at}
use Rattle.lfg_instant.proofs.steps.steps_of.Goals as goal

pub loop-place-init : goal.loop-place-init
loop-place-init c = rw c.new-steps.ensures.items (counted_none [] (StepAt c.args.chart.now.forks))

pub loop-place-preserved : goal.loop-place-preserved
loop-place-preserved c =
    let point = c.index-points-place.result in
    let ways = c.alternatives_at.result.now in
    let there = c.alternatives_at.ensures in
    let row : slice_get (points_of c.args.chart.now.forks) c.loop-place.place ≡ Some there.0 = slice_get-map (λ (f : Fork). f.0) c.args.chart.now.forks c.loop-place.place ∙ ap (option_map (λ (f : Fork). f.0)) there.1 in
    let at : slice_get c.points-points.result.now c.loop-place.place ≡ Some point = place_is c.points-points.result.now c.loop-place.place point c.loop-place-test.true c.index-points-place.is in
    let same : there.0 ≡ point = same_Some there.0 point (sym row ∙ ap (λ ps. slice_get ps c.loop-place.place) (sym c.points-points.ensures) ∙ at) in
    let fork : slice_get c.args.chart.now.forks c.loop-place.place ≡ Some (point, ways) = subst (λ (p : Point). slice_get c.args.chart.now.forks c.loop-place.place ≡ Some (p, ways)) same there.1 in
    counted_more [] c.loop-place.steps.items c.add_steps.new.steps.items (StepAt c.args.chart.now.forks) (IsStepAt c.loop-place.place point ways) c.loop-place.place
    c.loop-place.invariant c.in_ok-add_steps.ensures
    (λ st. at_point c.args.chart.now.forks c.loop-place.place point ways fork st)

pub returns : goal.returns
returns c =
    let many : length c.points-points.result.now ≡ length c.args.chart.now.forks = ap (λ ps. length ps) c.points-points.ensures ∙ length-map c.args.chart.now.forks (λ (f : Fork). f.0) in
    record {
      exact = collected c.loop-place.steps.items _ (collects_along [] c.loop-place.steps.items _ (IsStepOf c.args.chart.now.forks)
          (λ st. steps_at c.args.chart.now.forks c.loop-place.place (omega (arith, c.loop-place-test.false, many)) st) c.loop-place.invariant);
    }
