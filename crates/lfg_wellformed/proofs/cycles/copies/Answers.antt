use Rattle.std.proofs.Common.{◌≡◌, ◌<◌, ◌≤◌, ℕ, List, [], length, get_or, slice_set, take, subst, sym, refl, ◌∙◌, ap, arith}
use Rattle.lfg_wellformed.proofs.StepLaws.{map_more, entry_below, entry_tells, row_leads, adds_nothing, adds_step, each_none, each_more, each_all, lasting_none, lasting_more, lasting_settled, acyclic_excludes, on_tells, steps_made, steps_within, copies_made, step_within, copies_more}
use Rattle.lfg_wellformed.proofs.cycles.copies.Goals as goal

pub loop-place-preserved : goal.loop-place-preserved
loop-place-preserved c =
    let m = copies_more c.loop-place.copies.items c.push.new.self.items c.in_ok-share.field-0 c.args.set.now c.loop-place._place c.in_ok-push.ensures.items c.in_ok-share.ensures c.loop-place.invariant.len c.loop-place.invariant.each in
    record { len = m.0; each = m.1 }
