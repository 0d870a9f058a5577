use Rattle.std.proofs.Common.{rules, arith, ◌≡◌, ◌<◌, ◌-◌, map, ap}
use Rattle.std.proofs.lemmas.List.{take_all}
use Rattle.lfg_model.specs.RightSides.{draft_schema_of, draft_annotation_of}
use Rattle.lfg_model.specs.DraftForms.{template_form}
use Rattle.lfg_templates.specs.Counts.{one_count, all_count, call_count, capped, summed}
use Rattle.lfg_templates.specs.Depth.{deepest, heaviest}
use Rattle.lfg_templates.proofs.Counting.{summed_more, summed_split, all_summed, count_either, count_called, call_none, call_zero, call_some}
use Rattle.lfg_templates.proofs.Measures.{in_heaviest, one_less}
use Rattle.lfg_templates.proofs.count.+count.Goals as goal

pub count_all-returns-then-sum-gt-SCHEMA_LIMIT : goal.count_all-returns-then-sum-gt-SCHEMA_LIMIT
count_all-returns-then-sum-gt-SCHEMA_LIMIT t c =
    let s = summed_split (λ s. one_count (call_count (map template_form c.args.templates.now) c.args.depth) (draft_schema_of s)) c.args.schemata.now c.loop-schema.schema-index in
    let a = all_summed (call_count (map template_form c.args.templates.now) c.args.depth) c.args.schemata.now in
    omega (arith, s, a, c.loop-schema.invariant, c.if-sum-gt-SCHEMA_LIMIT.true)

pub count_all-loop-schema-preserved : goal.count_all-loop-schema-preserved
count_all-loop-schema-preserved t c =
    let s = summed_more (λ s. one_count (call_count (map template_form c.args.templates.now) c.args.depth) (draft_schema_of s)) c.args.schemata.now c.loop-schema.schema-index c.schema-item.result c.loop-schema-test.true c.schema-item.is in
    omega (arith, s, c.loop-schema.invariant, c.count_one.ensures, c.capped_sum-sum.ensures)

pub count_all-returns : goal.count_all-returns
count_all-returns t c =
    let w = ap (summed (λ s. one_count (call_count (map template_form c.args.templates.now) c.args.depth) (draft_schema_of s))) (take_all c.loop-schema.schema-index c.args.schemata.now (omega arith)) in
    let a = all_summed (call_count (map template_form c.args.templates.now) c.args.depth) c.args.schemata.now in
    omega (arith, w, a, c.loop-schema.invariant)

pub count_one-returns-then-sum-gt-SCHEMA_LIMIT : goal.count_one-returns-then-sum-gt-SCHEMA_LIMIT
count_one-returns-then-sum-gt-SCHEMA_LIMIT t c =
    let s = summed_split (λ b. all_count (call_count (map template_form c.args.templates.now) c.args.depth) (draft_annotation_of b.items)) c.deref-branch-items.result.now c.loop-branch.branch-index in
    let a = count_either (call_count (map template_form c.args.templates.now) c.args.depth) c.args.schema.now c.in-Either.branches c.deref-branch-items.result.now c.in-Either.is c.deref-branch-items.ensures.value in
    omega (arith, s, a, c.loop-branch.invariant, c.if-sum-gt-SCHEMA_LIMIT.true)

pub count_one-loop-branch-preserved : goal.count_one-loop-branch-preserved
count_one-loop-branch-preserved t c =
    let s = summed_more (λ b. all_count (call_count (map template_form c.args.templates.now) c.args.depth) (draft_annotation_of b.items)) c.deref-branch-items.result.now c.loop-branch.branch-index c.branch-item.result c.loop-branch-test.true c.branch-item.is in
    let e : c.count_all-in-loop-branch.result ≡ capped (all_count (call_count (map template_form c.args.templates.now) c.args.depth) (draft_annotation_of c.branch-item.result.items)) = rw (← c.deref-in-loop-branch.ensures.value) c.count_all-in-loop-branch.ensures in
    omega (arith, s, e, c.loop-branch.invariant, c.capped_sum-sum.ensures)

pub count_one-returns-after-loop-branch : goal.count_one-returns-after-loop-branch
count_one-returns-after-loop-branch t c =
    let w = ap (summed (λ b. all_count (call_count (map template_form c.args.templates.now) c.args.depth) (draft_annotation_of b.items))) (take_all c.loop-branch.branch-index c.deref-branch-items.result.now (omega arith)) in
    let a = count_either (call_count (map template_form c.args.templates.now) c.args.depth) c.args.schema.now c.in-Either.branches c.deref-branch-items.result.now c.in-Either.is c.deref-branch-items.ensures.value in
    omega (arith, w, a, c.loop-branch.invariant)

pub count_one-returns-in_default : goal.count_one-returns-in_default
count_one-returns-in_default t c =
    let a = count_called (call_count (map template_form c.args.templates.now) c.args.depth) c.args.schema.now c.in-Call.name c.in-Call.args c.in-Call.is in
    let b = call_none (map template_form c.args.templates.now) c.args.depth c.in-Call.name c.in_default.ensures.first in
    omega (arith, a, b)

pub count_one-returns-then-depth-eq0 : goal.count_one-returns-then-depth-eq0
count_one-returns-then-depth-eq0 t c =
    let a = count_called (call_count (map template_form c.args.templates.now) c.args.depth) c.args.schema.now c.in-Call.name c.in-Call.args c.in-Call.is in
    let b = call_zero (map template_form c.args.templates.now) c.args.depth c.in-Call.name (search rules) in
    omega (arith, a, b)

pub count_one-count_all-requires-in-Call : goal.count_one-count_all-requires-in-Call
count_one-count_all-requires-in-Call t c =
    let h = in_heaviest c.in-Some.template.now c.in-Some.ensures.among in
    let l : 0 < c.args.depth = search rules in
    let m = one_less c.args.depth (heaviest c.args.templates.now) l in
    let e : deepest c.list.result.now ≡ deepest c.in-Some.template.now.body = ap deepest c.list.ensures in
    (omega (arith, c.decreases), tt)

pub count_one-returns-else-depth-eq0 : goal.count_one-returns-else-depth-eq0
count_one-returns-else-depth-eq0 t c =
    let l : 0 < c.args.depth = search rules in
    let a = count_called (call_count (map template_form c.args.templates.now) c.args.depth) c.args.schema.now c.in-Call.name c.in-Call.args c.in-Call.is in
    let b = call_some (map template_form c.args.templates.now) c.args.depth c.in-Call.name (template_form c.in-Some.template.now) l c.in-Some.ensures.first in
    let e : c.count_all-in-Call.result ≡ capped (all_count (call_count (map template_form c.args.templates.now) (c.args.depth - 1)) (draft_annotation_of c.in-Some.template.now.body)) = rw (← c.list.ensures) c.count_all-in-Call.ensures in
    omega (arith, a, b, e)
