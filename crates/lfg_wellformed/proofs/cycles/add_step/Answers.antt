use Rattle.std.proofs.Common.{◌≡◌, IsTrue, false, ◌<◌, ◌≤◌, ℕ, List, [], length, get_or, slice_set, take, subst, sym, refl, ◌∙◌, ap, arith}
use Rattle.std.proofs.lemmas.Bool.{false≢true}
use Rattle.lfg_context.proofs.Growing.{grown_refl, grown_trans, same_picks_refl, same_picks_trans, made_grown, are_made_grown, made_at, set_made_at}
use Rattle.lfg_wellformed.proofs.StepLaws.{map_more, entry_below, entry_tells, row_leads, adds_nothing, adds_step, each_none, each_more, each_all, lasting_none, lasting_more, lasting_settled, acyclic_excludes, on_tells, steps_made, steps_within, copies_made, step_within, copies_more}
use Rattle.lfg_wellformed.specs.Steps.{arc_step, member_step, LeadsOn, StepsOn, IsIn, TellsEach, AreLasting, EntryLeads, IsOn}
use Rattle.lfg_wellformed.proofs.cycles.add_step.Goals as goal

pub or-requires-clause-a_made : goal.or-requires-clause-a_made
or-requires-clause-a_made c =
    let w : IsTrue c.is_within.result = c.if-not-is_within.false in
    let b = c.is_within.ensures.0 w in
    let h : c.args.step.now.0.0 < length c.args.longer.now.items = omega (arith, b.0, c.requires.longer_len, c.requires.len) in
    set_made_at c.args.step.now.0.0 c.index.result.now (are_made_grown (grown_trans c.in_ok-next.ensures.grown c.in_ok-both.ensures.grown) c.requires.longer) h c.index.ensures

pub returns-clause-adds : goal.returns-clause-adds
returns-clause-adds c =
    let w : IsTrue c.is_within.result = c.if-not-is_within.false in
    let b = c.is_within.ensures.0 w in
    let h : c.args.step.now.0.0 < length c.args.longer.now.items = omega (arith, b.0, c.requires.longer_len, c.requires.len) in
    adds_step c.args.closure.now c.args.step.now (IsIn c.args.closure.now.empty c.args.sets.now) c.args.longer.now.items c.args.step.now.0.0 c.index.result.now c.in_ok-next.next c.in_ok-both.both c.in_ok-wider.wider
    refl h c.index.ensures c.in_ok-next.ensures.tells c.in_ok-both.ensures.ok.members c.in_ok-wider.ensures.ok.members

pub returns-then-not-is_within-clause-adds : goal.returns-then-not-is_within-clause-adds
returns-then-not-is_within-clause-adds c =
    adds_nothing c.args.closure.now c.args.step.now (IsIn c.args.closure.now.empty c.args.sets.now) c.args.longer.now.items
    (λ a on. let b = c.requires.within a on in
    false≢true (sym c.if-not-is_within.true ∙ c.is_within.ensures.1 (omega (arith, b.0, c.requires.len), omega (arith, b.1, c.requires.len))))
