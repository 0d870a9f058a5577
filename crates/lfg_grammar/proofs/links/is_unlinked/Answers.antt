use Rattle.std.proofs.Common.{◌≡◌, true, false, sym, ◌∙◌, refl, subst, List, arith}
use Rattle.lfg_terms.specs.declared.grammar.Item.{Item}
use Rattle.lfg_model.specs.Lists.{In}
use Rattle.lfg_model.specs.TemplateRules.{NoneHas}
use Rattle.lfg_grammar.specs.Unlinked.{item_is_unlinked}
use Rattle.lfg_grammar.proofs.FirstPlaces.{in_there, none_at_end, none_more}
use Rattle.lfg_grammar.proofs.Unlinkable.{rule_is_linked, rule_is_unlinked}
use Rattle.lfg_grammar.proofs.links.is_unlinked.Goals as goal

pub returns-then-item_is_unlinked : goal.returns-then-item_is_unlinked
returns-then-item_is_unlinked c =
    let among : In c.item-item.result c.args.rule.now.items = subst (λ (is : List Item). In c.item-item.result is) c.list-item-items.ensures (in_there c.list-item-items.result.now c.loop-item.item-index c.item-item.result c.loop-item-test.true c.item-item.is) in
    (λ t. rule_is_unlinked c.args.rule.now c.item-item.result among (sym c.item_is_unlinked.ensures ∙ c.if-item_is_unlinked.true), λ u. refl)

pub loop-item-preserved : goal.loop-item-preserved
loop-item-preserved c =
    none_more (λ (i : Item). item_is_unlinked i ≡ true) c.list-item-items.result.now c.loop-item.item-index c.item-item.result c.loop-item-test.true c.item-item.is c.loop-item.invariant
    (λ e. let no : true ≡ false = sym e ∙ sym c.item_is_unlinked.ensures ∙ c.if-item_is_unlinked.false in cc)

pub returns : goal.returns
returns c =
    let none = none_at_end (λ (i : Item). item_is_unlinked i ≡ true) c.list-item-items.result.now c.loop-item.item-index (omega arith) c.loop-item.invariant in
    let linked = rule_is_linked c.args.rule.now (subst (λ (is : List Item). NoneHas (λ (i : Item). item_is_unlinked i ≡ true) is) c.list-item-items.ensures none) in
    (λ t. let no : false ≡ true = t in cc, λ u. absurd (linked u))
