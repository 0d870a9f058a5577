use Rattle.std.proofs.Common.{◌≡◌, Some, slice_get, arith, ap, ◌∙◌}
use Rattle.lfg_chart.proofs.Searching.{found_at, not_there}
use Rattle.lfg_model.specs.Lists.{In}
use Rattle.lfg_instant.specs.declared.junctions.Junction.{Junction}
use Rattle.lfg_instant.specs.JunctionOrder.{junction_cmp, junction_cmp_total}
use Rattle.lfg_instant.proofs.JunctionTies.{junction_ties}
use Rattle.lfg_instant.proofs.TakenLaws.{one_set, picked_set, number_within, junctions_ascend, junction_there}
use Rattle.lfg_instant.proofs.picks.pick.Goals as goal

pub returns-then-many-lt2-clause-ok : goal.returns-then-many-lt2-clause-ok
returns-then-many-lt2-clause-ok c = λ x is.
    one_set c.args.grammar.now c.args.tokens.now c.args.junctions.now c.requires.junctions x c.requires.place.0 c.args.key c.args.many c.args.number is c.requires.place.1 (omega arith) _ _ c.yes.ensures

pub pick-requires-clause-alternative_in : goal.pick-requires-clause-alternative_in
pick-requires-clause-alternative_in c =
    let js = c.args.junctions.now in
    let sought : Junction = record { key = c.args.key; alternatives = c.in-Ok.alternatives } in
    let i = c.in-Ok-binary_search.place in
    let at : slice_get js i ≡ Some sought = found_at junction_cmp junction_cmp_total junction_ties js sought i c.in-Ok-binary_search.ensures.bound c.in-Ok-binary_search.ensures.ok in
    let there : slice_get js c.in-Ok-try_from.choice ≡ Some sought = ap (λ k. slice_get js k) (c.in-Ok-try_from.ensures.1) ∙ at in
    number_within js c.args.space.now c.requires.space c.args.key c.in-Ok-try_from.choice c.in-Ok.alternatives c.args.many c.args.number there (omega (arith, c.in-Ok.ensures)) c.requires.place.1.within

pub returns-clause-ok : goal.returns-clause-ok
returns-clause-ok c = λ x is.
    let js = c.args.junctions.now in
    let sought : Junction = record { key = c.args.key; alternatives = c.in-Ok.alternatives } in
    let i = c.in-Ok-binary_search.place in
    let at : slice_get js i ≡ Some sought = found_at junction_cmp junction_cmp_total junction_ties js sought i c.in-Ok-binary_search.ensures.bound c.in-Ok-binary_search.ensures.ok in
    let there : slice_get js c.in-Ok-try_from.choice ≡ Some sought = ap (λ k. slice_get js k) (c.in-Ok-try_from.ensures.1) ∙ at in
    picked_set c.args.grammar.now c.args.tokens.now js c.requires.junctions c.args.space.now c.requires.space x c.args.key c.in-Ok-try_from.choice c.in-Ok.alternatives c.args.number is there _ _ c.in_ok-set.ensures.ok

pub returns-in-Err-clause-ok : goal.returns-in-Err-clause-ok
returns-in-Err-clause-ok c =
    let g = c.args.grammar.now in
    let s = c.args.tokens.now in
    let js = c.args.junctions.now in
    let sought : Junction = record { key = c.args.key; alternatives = c.in-Ok.alternatives } in
    let are = c.requires.junctions in
    let there : In sought js = junction_there g s js are c.requires.place.0 c.args.key c.args.many c.args.number c.in-Ok.alternatives c.requires.place.1 (omega (arith, c.in-Ok.ensures)) (omega arith) in
    let never = not_there junction_cmp junction_cmp_total junction_ties js sought c.in-Err.field-0 (junctions_ascend g s js are.keys are.choices.ascends) c.in-Err.ensures.position in
    absurd (never there)
