use Rattle.std.proofs.Common.{◌≡◌, ◌<◌, ◌≤◌, ℕ, List, [], length, get_or, slice_set, take, subst, sym, refl, ◌∙◌, ap, arith}
use Rattle.lfg_context.proofs.Growing.{grown_refl, grown_trans, same_picks_refl, same_picks_trans, made_grown, are_made_grown, made_at, set_made_at}
use Rattle.lfg_wellformed.proofs.StepLaws.{map_more, entry_below, entry_tells, row_leads, adds_nothing, adds_step, each_none, each_more, each_all, lasting_none, lasting_more, lasting_settled, acyclic_excludes, on_tells, steps_made, steps_within, copies_made, step_within, copies_more}
use Rattle.lfg_wellformed.specs.Steps.{arc_step, member_step, LeadsOn, StepsOn, IsIn, TellsEach, AreLasting, EntryLeads, IsOn}
use Rattle.lfg_context.specs.Seen.{Set}
use Rattle.lfg_context.specs.Sets.{AreMade}
use Rattle.lfg_context.specs.Telling.{Tells, InSome}
use Rattle.lfg_wellformed.specs.Steps.{Move, AreWithin}
use Rattle.lfg_wellformed.proofs.cycles.cyclic.Goals as goal

pub lasting-requires-clause-all : goal.lasting-requires-clause-all
lasting-requires-clause-all c = c.deref.ensures.value ∙ c.in_ok-steps.ensures

pub lasting-requires-clause-steps : goal.lasting-requires-clause-steps
lasting-requires-clause-steps c =
    let P : List Move → Type 0 = λ v. AreMade c.args.contexts.now (λ s. s.1) v in
    subst P (sym (c.deref.ensures.value ∙ c.in_ok-steps.ensures)) (steps_made c.requires.closure)

pub lasting-requires-clause-within : goal.lasting-requires-clause-within
lasting-requires-clause-within c =
    let P : List Move → Type 0 = λ v. AreWithin c.args.closure.now v in
    subst P (sym (c.deref.ensures.value ∙ c.in_ok-steps.ensures)) (steps_within c.requires.closure)

pub returns-clause-fails : goal.returns-clause-fails
returns-clause-fails c =
    let P : List Set → Type 0 = λ v. Tells c.in_ok-found.found (InSome v IsOn) in
    acyclic_excludes c.in_ok-sets.sets.items c.in_ok-found.found c.in_ok-sets.ensures.lasting (subst P c.deref-2.ensures.value c.in_ok-found.ensures.tells)
