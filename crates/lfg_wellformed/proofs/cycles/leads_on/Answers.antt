use Rattle.std.proofs.Common.{◌≡◌, ◌<◌, ◌≤◌, ℕ, List, [], length, get_or, slice_set, take, subst, sym, refl, ◌∙◌, ap, arith}
use Rattle.lfg_context.proofs.Growing.{grown_refl, grown_trans, same_picks_refl, same_picks_trans, made_grown, are_made_grown, made_at, set_made_at}
use Rattle.lfg_wellformed.proofs.StepLaws.{map_more, entry_below, entry_tells, row_leads, adds_nothing, adds_step, each_none, each_more, each_all, lasting_none, lasting_more, lasting_settled, acyclic_excludes, on_tells, steps_made, steps_within, copies_made, step_within, copies_more}
use Rattle.lfg_context.proofs.Telling.{in_more, in_all, of_more}
use Rattle.lfg_context.specs.Sets.{AreMade}
use Rattle.lfg_unify.specs.Closures.{Row}
use Rattle.lfg_unify.proofs.Closed.{row_sets}
use Rattle.lfg_wellformed.specs.Steps.{arc_step, member_step, LeadsOn, StepsOn, IsIn, TellsEach, AreLasting, EntryLeads, IsOn}
use Rattle.lfg_wellformed.proofs.cycles.leads_on.Goals as goal

pub entry_leads-requires-clause-place : goal.entry_leads-requires-clause-place
entry_leads-requires-clause-place c =
    let l = entry_below (length c.args.closure.now.nodes) 0 c.equals-row.result.now c.loop-entry.entry-index c.entry-item.result c.equals-row.ensures.ascends (omega arith) c.entry-item.is in
    omega (arith, l, c.requires.len)

pub entry_leads-requires-clause-entry : goal.entry_leads-requires-clause-entry
entry_leads-requires-clause-entry c =
    let P : Row → Type 0 = λ v. AreMade c.args.contexts.now (λ e. e.1) v in
    made_at c.loop-entry.entry-index c.entry-item.result (are_made_grown c.loop-entry.invariant.grown (subst P (sym c.equals-row.ensures.row) (row_sets c.args.place c.requires.closure.is.made))) (omega arith) c.entry-item.is

pub loop-entry-preserved : goal.loop-entry-preserved
loop-entry-preserved c = record {
  grown = grown_trans (grown_trans c.loop-entry.invariant.grown c.in_ok-one.ensures.grown) c.in_ok-found.ensures.grown;
  picks = same_picks_trans (same_picks_trans c.loop-entry.invariant.picks c.in_ok-one.ensures.picks) c.in_ok-found.ensures.picks;
  made = c.in_ok-found.ensures.ok.made;
  tells = in_more (EntryLeads c.args.closure.now.empty c.args.sets.now) c.equals-row.result.now c.loop-entry.entry-index c.entry-item.result (omega arith) c.entry-item.is c.loop-entry.invariant.tells
      (c.in_ok-one.ensures.tells c.args.closure.now.empty) c.in_ok-found.ensures.ok.members;
}

pub returns-clause-tells : goal.returns-clause-tells
returns-clause-tells c =
    row_leads c.args.closure.now c.args.sets.now c.args.place c.equals-row.result.now c.loop-entry.found c.equals-row.ensures.row c.equals-row.ensures.ascends c.requires.closure.is.none
    (in_all (EntryLeads c.args.closure.now.empty c.args.sets.now) c.equals-row.result.now c.loop-entry.entry-index (omega arith) c.loop-entry.invariant.tells)
