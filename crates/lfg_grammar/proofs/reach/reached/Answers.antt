use Rattle.std.proofs.Common.{rules, length, replicate, false, ◌≡◌, ◌<◌, ◌≤◌, ◌∙◌, ap, refl}
use Rattle.std.proofs.lemmas.List.{length-replicate}
use Rattle.lfg_templates.proofs.Measures.{In_item}
use Rattle.lfg_templates.proofs.Reaching.{tied_fresh, tied_at, tied_within, reached_at}
use Rattle.lfg_grammar.proofs.Reaching.{at_item, search_begun, search_more, search_done}
use Rattle.lfg_grammar.proofs.reach.reached.Goals as goal

pub mark_all-requires : goal.mark_all-requires
mark_all-requires c =
    let e : c.in_ok-marks.marks.items ≡ replicate (length c.args.next.now) false = search rules in
    tied_fresh (length c.args.next.now) c.in_ok-marks.marks.items c.new-found.result.items e c.new-found.ensures.items

pub loop-at-init : goal.loop-at-init
loop-at-init c =
    let e : c.in_ok-marks.marks.items ≡ replicate (length c.args.next.now) false = search rules in
    let n : length c.in_ok-marks.marks.items ≡ length c.args.next.now = ap length e ∙ length-replicate (length c.args.next.now) false in
    search_begun c.args.next.now c.args.starts.now c.mark_all.new.marks.items c.mark_all.new.found.items
    (tied_at _ _ c.mark_all.new.marks.items c.mark_all.new.found.items n c.in_ok-mark_all.ensures.tied)
    (reached_at _ _ _ _ _ _ c.mark_all.new.found.items n refl c.new-found.ensures.items c.in_ok-mark_all.ensures.reached)

pub bounds-next-number : goal.bounds-next-number
bounds-next-number c =
    let t : c.loop-at.at < length c.loop-at.found.items = search rules in
    let i = In_item c.loop-at.found.items c.loop-at.at c.index-number.result.now c.index-number.result.now t c.index-number.ensures in
    tied_within c.loop-at.invariant.tied c.index-number.result.now i

pub offset_bounds-next-number : goal.offset_bounds-next-number
offset_bounds-next-number c =
    let t : c.loop-at.at < length c.loop-at.found.items = search rules in
    let i = In_item c.loop-at.found.items c.loop-at.at c.index-number.result.now c.index-number.result.now t c.index-number.ensures in
    let b : c.index-number.result.now < length c.args.next.now = tied_within c.loop-at.invariant.tied c.index-number.result.now i in
    search rules

pub loop-at-preserved : goal.loop-at-preserved
loop-at-preserved c =
    let t : c.loop-at.at < length c.loop-at.found.items = search rules in
    let i = In_item c.loop-at.found.items c.loop-at.at c.index-number.result.now c.index-number.result.now t c.index-number.ensures in
    let b : c.index-number.result.now < length c.args.next.now = tied_within c.loop-at.invariant.tied c.index-number.result.now i in
    let w = c.loop-at.invariant.tied.wide in
    search_more c.args.next.now c.args.starts.now c.loop-at.marks.items c.mark_all-in-loop-at.new.marks.items c.loop-at.found.items c.mark_all-in-loop-at.new.found.items c.index-next-number.result.items c.loop-at.at c.index-number.result.now t c.index-number.ensures
    (λ j. at_item c.args.next.now c.index-number.result.now j c.index-next-number.result b c.index-next-number.is)
    c.loop-at.invariant
    (tied_at _ _ c.mark_all-in-loop-at.new.marks.items c.mark_all-in-loop-at.new.found.items w c.in_ok-mark_all-2.ensures.tied)
    (reached_at _ _ _ _ _ _ c.mark_all-in-loop-at.new.found.items w c.deref.ensures.value refl c.in_ok-mark_all-2.ensures.reached)

pub returns : goal.returns
returns c =
    let t : length c.loop-at.found.items ≤ c.loop-at.at = search rules in
    record {
      wide = c.loop-at.invariant.tied.wide;
      exact = search_done c.args.next.now c.args.starts.now c.loop-at.marks.items c.loop-at.found.items c.loop-at.at t c.loop-at.invariant;
    }
