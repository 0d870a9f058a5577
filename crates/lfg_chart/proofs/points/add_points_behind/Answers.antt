use Rattle.std.proofs.Common.{arith, ◌≡◌, ℕ}
use Rattle.lfg_model.specs.declared.point.Point.{Point}
use Rattle.lfg_chart.specs.Points.{IsPointAt}
use Rattle.lfg_chart.proofs.CellLaws.{true_is, false_not}
use Rattle.lfg_chart.proofs.CollectLaws.{collects_none, collects_one, counted_more, counted_same, one_point}
use Rattle.lfg_chart.proofs.points.add_points_behind.Goals as goal
use Rattle.lfg_chart.proofs.points.add_points_behind.Goals.{then-has+then-has-2+in_ok-edge+in_ok-push, else-has, else-has-via-then-has+else-has-2, else-has-via-else-has}

pub loop-at-init : goal.loop-at-init
loop-at-init c = collects_none c.args.points.now.items _ (λ x w. absurd (omega (arith, w.1)))

pub loop-at-preserved : goal.loop-at-preserved
loop-at-preserved c =
    let t = c.args.table.now in
    let cats = c.args.cats.now in
    let Q : ℕ → Point → Type 0 = λ at x. IsPointAt cats t c.args.span c.args.before at x in
    elim c.if-has.branch [
      | then-has+then-has-2+in_ok-edge+in_ok-push w ↦ rw w.points-is (
          let edge = w.in_ok-edge.edge in
          let new : Point = record { edge = edge; occ = c.args.before; at = c.loop-at.at } in
          counted_more c.args.points.now.items c.loop-at.points.items w.push.new.self.items Q (λ x. x ≡ new) c.loop-at.at c.loop-at.invariant
          (collects_one c.loop-at.points.items w.push.new.self.items new w.in_ok-push.ensures.items)
          (λ x. one_point cats t c.args.span c.args.before c.loop-at.at edge x w.in_ok-edge.ensures
          ((c.places-reads.ensures c.loop-at.at (omega arith)).0 (c.has.ensures.0 (true_is w.if-has.true)))
          ((w.places.ensures c.args.span.to c.requires.span.to).0 (w.has-then-has.ensures.0 (true_is w.if-has-2.true)))))
      | else-has w ↦ rw w.points-is (counted_same c.args.points.now.items c.loop-at.points.items Q c.loop-at.at c.loop-at.invariant (λ x q. elim w.else-has.branch [
        | else-has-via-then-has+else-has-2 v ↦ false_not v.if-has-2.false (v.has-then-has.ensures.1 ((v.places.ensures c.args.span.to c.requires.span.to).1 q.left))
        | else-has-via-else-has v ↦ false_not v.if-has.false (c.has.ensures.1 ((c.places-reads.ensures c.loop-at.at (omega arith)).1 q.read))
      ]))
    ]
