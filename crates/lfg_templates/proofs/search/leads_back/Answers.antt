use Rattle.std.proofs.Common.{rules, arith, length, map, replicate, false, ◌≡◌, ◌<◌, ◌≤◌, ◌∙◌, ap, sym, refl}
use Rattle.std.proofs.lemmas.List.{length-replicate}
use Rattle.lfg_templates.proofs.Measures.{In_item}
use Rattle.lfg_templates.proofs.Reaching.{tied_fresh, tied_at, tied_within, reached_at, search_begun, search_more, search_done, rows_length, row_items}
use Rattle.lfg_templates.proofs.search.leads_back.Goals as goal

pub mark_row-requires : goal.mark_row-requires
mark_row-requires c =
    let e : c.in_ok-marks.marks.items ≡ replicate (length c.args.graph.now) false = search rules in
    tied_fresh (length c.args.graph.now) c.in_ok-marks.marks.items c.new-reached.result.items e c.new-reached.ensures.items

pub loop-next-init : goal.loop-next-init
loop-next-init c =
    let e : c.in_ok-marks.marks.items ≡ replicate (length c.args.graph.now) false = search rules in
    let n : length c.in_ok-marks.marks.items ≡ length (map (λ r. r.items) c.args.graph.now) = ap length e ∙ length-replicate (length c.args.graph.now) false ∙ sym (rows_length c.args.graph.now) in
    search_begun (map (λ r. r.items) c.args.graph.now) c.args.start c.mark_row.new.marks.items c.mark_row.new.reached.items
    (tied_at (length c.in_ok-marks.marks.items) (length (map (λ r. r.items) c.args.graph.now)) c.mark_row.new.marks.items c.mark_row.new.reached.items n c.in_ok-mark_row.ensures.tied)
    (reached_at (length c.in_ok-marks.marks.items) (length (map (λ r. r.items) c.args.graph.now)) _ _ _ _ c.mark_row.new.reached.items n
    (c.deref.ensures.value ∙ sym (row_items c.args.graph.now c.args.start c.index-graph-start.result c.requires c.index-graph-start.is)) c.new-reached.ensures.items c.in_ok-mark_row.ensures.reached)

pub bounds-graph-place : goal.bounds-graph-place
bounds-graph-place c =
    let t : c.loop-next.next < length c.loop-next.reached.items = search rules in
    let i = In_item c.loop-next.reached.items c.loop-next.next c.index-place.result.now c.index-place.result.now t c.index-place.ensures in
    let l = tied_within c.loop-next.invariant.tied c.index-place.result.now i in
    let m = rows_length c.args.graph.now in
    omega (arith, l, m)

pub offset_bounds-graph-place : goal.offset_bounds-graph-place
offset_bounds-graph-place c =
    let t : c.loop-next.next < length c.loop-next.reached.items = search rules in
    let i = In_item c.loop-next.reached.items c.loop-next.next c.index-place.result.now c.index-place.result.now t c.index-place.ensures in
    let l = tied_within c.loop-next.invariant.tied c.index-place.result.now i in
    let m = rows_length c.args.graph.now in
    let b : c.index-place.result.now < length c.args.graph.now = omega (arith, l, m) in
    search rules

pub loop-next-preserved : goal.loop-next-preserved
loop-next-preserved c =
    let t : c.loop-next.next < length c.loop-next.reached.items = search rules in
    let i = In_item c.loop-next.reached.items c.loop-next.next c.index-place.result.now c.index-place.result.now t c.index-place.ensures in
    let l = tied_within c.loop-next.invariant.tied c.index-place.result.now i in
    let m = rows_length c.args.graph.now in
    let b : c.index-place.result.now < length c.args.graph.now = omega (arith, l, m) in
    let w = c.loop-next.invariant.tied.wide in
    search_more (map (λ r. r.items) c.args.graph.now) c.args.start c.loop-next.marks.items c.mark_row-in-loop-next.new.marks.items c.loop-next.reached.items c.mark_row-in-loop-next.new.reached.items c.loop-next.next c.index-place.result.now t c.index-place.ensures c.loop-next.invariant
    (tied_at (length c.loop-next.marks.items) (length (map (λ r. r.items) c.args.graph.now)) c.mark_row-in-loop-next.new.marks.items c.mark_row-in-loop-next.new.reached.items w c.in_ok-mark_row-2.ensures.tied)
    (reached_at (length c.loop-next.marks.items) (length (map (λ r. r.items) c.args.graph.now)) _ _ c.loop-next.reached.items c.loop-next.reached.items c.mark_row-in-loop-next.new.reached.items w
    (c.deref-in-loop-next.ensures.value ∙ sym (row_items c.args.graph.now c.index-place.result.now c.index-graph-place.result b c.index-graph-place.is)) refl c.in_ok-mark_row-2.ensures.reached)

pub returns-clause-no : goal.returns-clause-no
returns-clause-no c = λ e w.
    let t : length c.loop-next.reached.items ≤ c.loop-next.next = search rules in
    let l : c.args.start < length (map (λ r. r.items) c.args.graph.now) = let m = rows_length c.args.graph.now in omega (arith, m, c.requires) in
    let d = search_done (map (λ r. r.items) c.args.graph.now) c.args.start c.loop-next.marks.items c.loop-next.reached.items c.loop-next.next t c.loop-next.invariant c.args.start l w in
    search rules
