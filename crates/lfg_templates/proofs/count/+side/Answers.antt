use Rattle.std.proofs.Common.{arith, map, ap}
use Rattle.std.proofs.lemmas.List.{take_all}
use Rattle.lfg_model.specs.RightSides.{right_side_of}
use Rattle.lfg_model.specs.DraftForms.{template_form}
use Rattle.lfg_templates.specs.Counts.{side_count, call_count, summed}
use Rattle.lfg_templates.proofs.Counting.{summed_more, sides_summed}
use Rattle.lfg_templates.proofs.count.+side.Goals as goal

pub count_sides-loop-side-preserved : goal.count_sides-loop-side-preserved
count_sides-loop-side-preserved t c =
    let s = summed_more (λ s. side_count (call_count (map template_form c.args.templates.now) c.args.depth) (right_side_of s)) c.args.sides.now c.loop-side.side-index c.side-item.result c.loop-side-test.true c.side-item.is in
    omega (arith, s, c.loop-side.invariant, c.count_side.ensures, c.capped_sum-sum.ensures)

pub count_sides-returns : goal.count_sides-returns
count_sides-returns t c =
    let w = ap (summed (λ s. side_count (call_count (map template_form c.args.templates.now) c.args.depth) (right_side_of s))) (take_all c.loop-side.side-index c.args.sides.now (omega arith)) in
    let a = sides_summed (call_count (map template_form c.args.templates.now) c.args.depth) c.args.sides.now in
    omega (arith, w, a, c.loop-side.invariant)
