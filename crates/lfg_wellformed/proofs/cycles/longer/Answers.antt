use Rattle.std.proofs.Common.{◌≡◌, ◌<◌, ◌≤◌, ℕ, List, [], length, get_or, slice_set, take, subst, sym, refl, ◌∙◌, ap, arith}
use Rattle.lfg_context.proofs.Growing.{grown_refl, grown_trans, same_picks_refl, same_picks_trans, made_grown, are_made_grown, made_at, set_made_at}
use Rattle.lfg_wellformed.proofs.StepLaws.{map_more, entry_below, entry_tells, row_leads, adds_nothing, adds_step, each_none, each_more, each_all, lasting_none, lasting_more, lasting_settled, acyclic_excludes, on_tells, steps_made, steps_within, copies_made, step_within, copies_more}
use Rattle.lfg_wellformed.specs.Steps.{arc_step, member_step, LeadsOn, StepsOn, IsIn, TellsEach, AreLasting, EntryLeads, IsOn}
use Rattle.lfg_wellformed.proofs.cycles.longer.Goals as goal

pub loop-step-init : goal.loop-step-init
loop-step-init c = record {
  grown = grown_refl c.args.contexts.now;
  picks = same_picks_refl c.args.contexts.now;
  made = copies_made c.in_ok-more.more.items c.no-none.result c.in_ok-more.ensures.each c.no-none.ensures.made;
  tells = each_none c.args.closure.now (IsIn c.args.closure.now.empty c.args.sets.now) (length c.args.closure.now.nodes) c.in_ok-more.more.items c.no-none.result
      (omega (arith, c.in_ok-more.ensures.len, c.requires.len)) c.in_ok-more.ensures.each c.no-none.ensures.members;
}

pub add_step-requires-clause-step : goal.add_step-requires-clause-step
add_step-requires-clause-step c = made_at c.loop-step.step-index c.step-item.result (are_made_grown c.loop-step.invariant.grown c.requires.steps) (omega arith) c.step-item.is

pub add_step-requires-clause-within : goal.add_step-requires-clause-within
add_step-requires-clause-within c = step_within c.args.steps.now c.loop-step.step-index c.step-item.result c.requires.within (omega arith) c.step-item.is

pub loop-step-preserved : goal.loop-step-preserved
loop-step-preserved c = record {
  grown = grown_trans c.loop-step.invariant.grown c.add_step.ensures.grown;
  picks = same_picks_trans c.loop-step.invariant.picks c.add_step.ensures.picks;
  made = c.in_ok-add_step.ensures.made;
  tells = each_more c.args.closure.now (IsIn c.args.closure.now.empty c.args.sets.now) (length c.args.closure.now.nodes) c.args.steps.now c.loop-step.step-index c.step-item.result c.loop-step.more.items c.add_step.new.longer.items
      (omega arith) c.step-item.is c.loop-step.invariant.tells c.in_ok-add_step.ensures.adds;
}

pub returns-clause-tells : goal.returns-clause-tells
returns-clause-tells c =
    each_all c.args.closure.now (IsIn c.args.closure.now.empty c.args.sets.now) (length c.args.closure.now.nodes) c.args.steps.now c.loop-step.step-index c.loop-step.more.items (omega arith) c.loop-step.invariant.tells
