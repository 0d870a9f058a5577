use Rattle.std.proofs.Common.{◌≡◌, true, ◌<◌, ◌≤◌, ℕ, List, [], length, get_or, slice_set, take, subst, sym, refl, ◌∙◌, ap, arith}
use Rattle.lfg_context.proofs.Growing.{grown_refl, grown_trans, same_picks_refl, same_picks_trans, made_grown, are_made_grown, made_at, set_made_at}
use Rattle.lfg_wellformed.proofs.StepLaws.{map_more, entry_below, entry_tells, row_leads, adds_nothing, adds_step, each_none, each_more, each_all, lasting_none, lasting_more, lasting_settled, acyclic_excludes, on_tells, steps_made, steps_within, copies_made, step_within, copies_more}
use Rattle.lfg_wellformed.specs.Steps.{arc_step, member_step, LeadsOn, StepsOn, IsIn, TellsEach, AreLasting, EntryLeads, IsOn}
use Rattle.lfg_context.specs.Seen.{Set}
use Rattle.lfg_context.specs.Sets.{Assignment, member, AreMade}
use Rattle.lfg_wellformed.proofs.cycles.lasting.Goals as goal

pub loop-turn-init : goal.loop-turn-init
loop-turn-init c =
    let n = ap length c.nodes-count.ensures in
    record {
      grown = grown_refl c.args.contexts.now;
      picks = same_picks_refl c.args.contexts.now;
      made = copies_made c.in_ok-sets.sets.items c.yes-yes.result c.in_ok-sets.ensures.each c.yes-yes.ensures.made;
      lasting = lasting_none c.args.closure.now c.in_ok-sets.sets.items c.yes-yes.result (omega (arith, c.in_ok-sets.ensures.len, n)) c.in_ok-sets.ensures.each c.yes-yes.ensures.members;
    }

pub loop-turn-preserved : goal.loop-turn-preserved
loop-turn-preserved c =
    let P : List Set → Type 0 = λ v. TellsEach (length c.args.closure.now.nodes) (StepsOn c.args.closure.now c.args.steps.now (IsIn c.args.closure.now.empty v)) c.in_ok-more.more.items in
    record {
      grown = grown_trans c.loop-turn.invariant.grown c.in_ok-more.ensures.grown;
      picks = same_picks_trans c.loop-turn.invariant.picks c.in_ok-more.ensures.picks;
      made = c.in_ok-more.ensures.made;
      lasting = (lasting_more c.args.closure.now c.args.steps.now c.loop-turn._turn c.loop-turn.sets.items c.in_ok-more.more.items c.requires.all c.loop-turn.invariant.lasting (subst P c.deref.ensures.value c.in_ok-more.ensures.tells));
    }

pub returns-then-all_same-clause-lasting : goal.returns-then-all_same-clause-lasting
returns-then-all_same-clause-lasting c =
    let n = ap length c.nodes-count.ensures in
    let P : List Set → Type 0 = λ v. TellsEach (length c.args.closure.now.nodes) (StepsOn c.args.closure.now c.args.steps.now (IsIn c.args.closure.now.empty v)) c.in_ok-more.more.items in
    let Q : List Set → Type 0 = λ v. (j : ℕ) (d : Set) (a : Assignment) → j < length v → member (get_or v j d) a ≡ member (get_or c.deref-in-loop-turn-2.result.now j d) a in
    let R : List Set → Type 0 = λ v. (j : ℕ) (d : Set) (a : Assignment) → j < length c.loop-turn.sets.items → member (get_or c.loop-turn.sets.items j d) a ≡ member (get_or v j d) a in
    lasting_settled c.args.closure.now c.loop-turn._turn c.loop-turn.sets.items c.in_ok-more.more.items (omega (arith, n)) c.loop-turn.invariant.lasting
    (lasting_more c.args.closure.now c.args.steps.now c.loop-turn._turn c.loop-turn.sets.items c.in_ok-more.more.items c.requires.all c.loop-turn.invariant.lasting (subst P c.deref.ensures.value c.in_ok-more.ensures.tells))
    (subst R c.deref-in-loop-turn-2.ensures.value (subst Q c.deref-in-loop-turn.ensures.value (c.all_same.ensures c.if-all_same.true)))

pub returns-clause-lasting : goal.returns-clause-lasting
returns-clause-lasting c =
    let n = ap length c.nodes-count.ensures in
    let e : c.loop-turn._turn ≡ length c.args.closure.now.nodes = omega (arith, n) in
    let Q : ℕ → Type 0 = λ v. AreLasting c.args.closure.now v c.loop-turn.sets.items in
    subst Q e c.loop-turn.invariant.lasting
