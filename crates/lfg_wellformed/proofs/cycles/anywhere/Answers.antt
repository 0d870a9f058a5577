use Rattle.std.proofs.Common.{◌≡◌, ◌<◌, ◌≤◌, ℕ, List, [], length, get_or, slice_set, take, subst, sym, refl, ◌∙◌, ap, arith}
use Rattle.lfg_context.proofs.Growing.{grown_refl, grown_trans, same_picks_refl, same_picks_trans, made_grown, are_made_grown, made_at, set_made_at}
use Rattle.lfg_context.proofs.Telling.{in_more, of_more}
use Rattle.lfg_wellformed.proofs.StepLaws.{map_more, entry_below, entry_tells, row_leads, adds_nothing, adds_step, each_none, each_more, each_all, lasting_none, lasting_more, lasting_settled, acyclic_excludes, on_tells, steps_made, steps_within, copies_made, step_within, copies_more}
use Rattle.lfg_wellformed.specs.Steps.{arc_step, member_step, LeadsOn, StepsOn, IsIn, TellsEach, AreLasting, EntryLeads, IsOn}
use Rattle.lfg_wellformed.proofs.cycles.anywhere.Goals as goal

pub or-requires-clause-b_made : goal.or-requires-clause-b_made
or-requires-clause-b_made c = set_made_at c.loop-set.set-index c.set-item.result (are_made_grown c.loop-set.invariant.grown c.requires.sets) (omega arith) c.set-item.is

pub loop-set-preserved : goal.loop-set-preserved
loop-set-preserved c = record {
  grown = grown_trans c.loop-set.invariant.grown c.in_ok-found.ensures.grown;
  picks = same_picks_trans c.loop-set.invariant.picks c.in_ok-found.ensures.picks;
  made = c.in_ok-found.ensures.ok.made;
  tells = in_more IsOn c.args.sets.now c.loop-set.set-index c.set-item.result (omega arith) c.set-item.is c.loop-set.invariant.tells (on_tells c.set-item.result) c.in_ok-found.ensures.ok.members;
}
