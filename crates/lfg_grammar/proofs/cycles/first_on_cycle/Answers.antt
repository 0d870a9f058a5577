use Rattle.std.proofs.Common.{◌≡◌, ◌<◌, ◌∙◌, List, Some, length, get_or, ap, sym, subst, arith}
use Rattle.std.specs.Prelude.{slice_get}
use Rattle.std.proofs.lemmas.Bool.{false≢true}
use Rattle.std.proofs.lemmas.Option.{slice_get_within}
use Rattle.lfg_terms.specs.declared.grammar.Rule.{Rule}
use Rattle.lfg_model.specs.Lists.{In}
use Rattle.lfg_model.specs.Loads.{IsUnaryCycle}
use Rattle.lfg_model.specs.Terms.{Name}
use Rattle.lfg_templates.proofs.Measures.{In_item}
use Rattle.lfg_grammar.proofs.CycleLaws.{rule_listed, first_at, none_more}
use Rattle.lfg_grammar.proofs.cycles.first_on_cycle.Goals as goal

pub place_of-at-requires-clause-among : goal.place_of-at-requires-clause-among
place_of-at-requires-clause-among c =
    let item = In_item c.list-rule-items.result.now c.loop-place.place c.rule-item.result c.rule-item.result c.loop-place-test.true c.rule-item.is in
    let among = subst (λ (rules : List Rule). In c.rule-item.result rules) c.list-rule-items.ensures item in
    subst (λ (cats : List Name). In c.rule-item.result.cat cats) (sym c.list-cats.ensures) (rule_listed c.args.grammar.now c.requires.cats c.rule-item.result among)

pub is_on_cycle-requires-clause-place : goal.is_on_cycle-requires-clause-place
is_on_cycle-requires-clause-place c =
    let at = slice_get_within c.list-cats.result.now c.place_of-at.result c.rule-item.result.cat c.place_of-at.ensures in
    omega (arith, at, ap length c.list-cats.ensures, c.requires.table.wide)

pub returns-then-branch : goal.returns-then-branch
returns-then-branch c =
    let g = c.args.grammar.now in
    let l : c.loop-place.place < length c.args.grammar.now.rules = omega (arith, c.loop-place-test.true, ap length c.list-rule-items.ensures) in
    let is : c.rule-item.result ≡ get_or c.args.grammar.now.rules c.loop-place.place c.rule-item.result =
    c.rule-item.is ∙ ap (λ (rules : List Rule). get_or rules c.loop-place.place c.rule-item.result) c.list-rule-items.ensures
    in
    let at : slice_get c.args.grammar.now.cats c.place_of-at.result ≡ Some c.rule-item.result.cat = ap (λ (cats : List Name). slice_get cats c.place_of-at.result) (sym c.list-cats.ensures) ∙ c.place_of-at.ensures in
    let cyclic : IsUnaryCycle c.args.grammar.now c.rule-item.result = (c.requires.table.each c.rule-item.result c.place_of-at.result at).0 (c.in_ok-is_on_cycle.ensures.0 c.if-branch.true) in
    first_at g.rules c.loop-place.place c.rule-item.result l c.loop-place.invariant (subst (IsUnaryCycle g) is cyclic)

pub loop-place-preserved : goal.loop-place-preserved
loop-place-preserved c =
    let g = c.args.grammar.now in
    let l : c.loop-place.place < length c.args.grammar.now.rules = omega (arith, c.loop-place-test.true, ap length c.list-rule-items.ensures) in
    let is : c.rule-item.result ≡ get_or c.args.grammar.now.rules c.loop-place.place c.rule-item.result =
    c.rule-item.is ∙ ap (λ (rules : List Rule). get_or rules c.loop-place.place c.rule-item.result) c.list-rule-items.ensures
    in
    let at : slice_get c.args.grammar.now.cats c.place_of-at.result ≡ Some c.rule-item.result.cat = ap (λ (cats : List Name). slice_get cats c.place_of-at.result) (sym c.list-cats.ensures) ∙ c.place_of-at.ensures in
    let tells = c.requires.table.each c.rule-item.result c.place_of-at.result at in
    none_more {P = IsUnaryCycle c.args.grammar.now} g.rules c.loop-place.place c.rule-item.result l is c.loop-place.invariant (λ p. false≢true (sym c.if-branch.false ∙ c.in_ok-is_on_cycle.ensures.1 (tells.1 p)))
