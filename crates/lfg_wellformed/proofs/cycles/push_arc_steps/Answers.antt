use Rattle.std.proofs.Common.{◌≡◌, ◌<◌, ◌≤◌, ℕ, List, [], length, get_or, slice_set, take, subst, sym, refl, ◌∙◌, ap, arith}
use Rattle.lfg_wellformed.specs.Steps.{arc_step, member_step}
use Rattle.lfg_wellformed.proofs.StepLaws.{map_more, entry_below, entry_tells, row_leads, adds_nothing, adds_step, each_none, each_more, each_all, lasting_none, lasting_more, lasting_settled, acyclic_excludes, on_tells, steps_made, steps_within, copies_made, step_within, copies_more}
use Rattle.lfg_wellformed.proofs.cycles.push_arc_steps.Goals as goal

pub loop-number-preserved : goal.loop-number-preserved
loop-number-preserved c =
    map_more (arc_step c.args.closure.now) c.args.steps.now.items c.arcs-arcs.result.now c.loop-number.number c.index-arcs-number.result c.loop-number.steps.items c.push.new.self.items c.in_ok-step.step (omega arith) c.index-arcs-number.is
    c.loop-number.invariant c.in_ok-push.ensures.items c.in_ok-step.ensures
