use Rattle.std.proofs.Common.{◌≡◌, ◌<◌, ◌≤◌, ℕ, List, [], length, get_or, slice_set, take, subst, sym, refl, ◌∙◌, ap, arith}
use Rattle.lfg_context.proofs.Growing.{grown_refl, grown_trans, same_picks_refl, same_picks_trans, made_grown, are_made_grown, made_at, set_made_at}
use Rattle.lfg_wellformed.proofs.StepLaws.{map_more, entry_below, entry_tells, row_leads, adds_nothing, adds_step, each_none, each_more, each_all, lasting_none, lasting_more, lasting_settled, acyclic_excludes, on_tells, steps_made, steps_within, copies_made, step_within, copies_more}
use Rattle.lfg_wellformed.proofs.cycles.entry_leads.Goals as goal

pub and-requires-clause-b_made : goal.and-requires-clause-b_made
and-requires-clause-b_made c = set_made_at c.args.entry.now.0 c.index-sets-entry.result c.requires.sets c.requires.place c.index-sets-entry.is

pub returns-clause-tells : goal.returns-clause-tells
returns-clause-tells c = λ none. entry_tells none c.args.sets.now c.args.entry.now c.index-sets-entry.result c.in_ok-both.both c.requires.place c.index-sets-entry.is c.in_ok-both.ensures.ok.members
