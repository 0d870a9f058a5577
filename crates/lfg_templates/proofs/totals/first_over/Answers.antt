use Rattle.std.proofs.Common.{arith, ap, get_or}
use Rattle.std.proofs.lemmas.List.{take_all}
use Rattle.lfg_templates.specs.Counts.{summed}
use Rattle.lfg_templates.proofs.Counting.{summed_more}
use Rattle.lfg_templates.proofs.Summing.{passes_there, get_or_same, whole_is}
use Rattle.lfg_templates.proofs.totals.first_over.Goals as goal

pub returns-then-sum-gt-SCHEMA_LIMIT : goal.returns-then-sum-gt-SCHEMA_LIMIT
returns-then-sum-gt-SCHEMA_LIMIT c =
    passes_there c.args.weights.now c.requires c.loop-weight.weight-index (record { entry = 0; size = 0 }) c.loop-weight-test.true
    (omega (arith, c.loop-weight.invariant.sum, c.loop-weight.invariant.within))
    (omega (arith, c.loop-weight.invariant.sum, c.saturating_add-sum.ensures, c.if-sum-gt-SCHEMA_LIMIT.true))

pub loop-weight-preserved : goal.loop-weight-preserved
loop-weight-preserved c =
    let s = summed_more (λ w. w.size) c.args.weights.now c.loop-weight.weight-index (get_or c.args.weights.now c.loop-weight.weight-index (record { entry = 0; size = 0 })) c.loop-weight-test.true (get_or_same c.args.weights.now c.loop-weight.weight-index (record { entry = 0; size = 0 }) c.loop-weight-test.true) in
    record {
      sum = omega (arith, s, c.loop-weight.invariant.sum, c.saturating_add-sum.ensures, c.if-sum-gt-SCHEMA_LIMIT.false);
      within = c.if-sum-gt-SCHEMA_LIMIT.false;
    }

pub returns : goal.returns
returns c =
    let w = ap (summed (λ w. w.size)) (take_all c.loop-weight.weight-index c.args.weights.now c.loop-weight-test.false) in
    let e = whole_is c.args.weights.now in
    omega (arith, w, e, c.loop-weight.invariant.sum, c.loop-weight.invariant.within)
