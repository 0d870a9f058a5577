use Rattle.std.proofs.Common.{◌≡◌, ◌<◌, ◌≤◌, ◌+◌, ◌∙◌, ◌⊎◌, List, [], Bor, Some, length, map, take, get_or, ap, sym, subst, arith}
use Rattle.std.specs.Prelude.{◌↔◌}
use Rattle.std.proofs.lemmas.List.{length-map, get_or-map}
use Rattle.lfg_model.specs.Lists.{In}
use Rattle.lfg_model.specs.Terms.{Name}
use Rattle.lfg_model.proofs.ListLaws.{In-map}
use Rattle.lfg_templates.proofs.Measures.{In_item}
use Rattle.lfg_grammar.specs.declared.reach.Link.{Link}
use Rattle.lfg_grammar.specs.OnlyDaughters.{IsOnlyDaughter}
use Rattle.lfg_grammar.specs.Reach.{link}
use Rattle.lfg_grammar.proofs.CycleLaws.{LinksDown, down_none, down_more, down_all}
use Rattle.lfg_grammar.proofs.cycles.push_rule_links.Goals as goal

pub loop-cat-init : goal.loop-cat-init
loop-cat-init c = down_none c.args.cats.now c.requires.sorted c.place_of-from.result c.args.links.now.items

pub place_of-requires-clause-among : goal.place_of-requires-clause-among
place_of-requires-clause-among c =
    let item = In_item c.deref-cat-items.result.now c.loop-cat.cat-index c.cat-item.result c.cat-item.result c.loop-cat-test.true c.cat-item.is in
    let there = subst (λ (cats : List (Bor Name)). In c.cat-item.result cats) c.deref-cat-items.ensures.value item in
    c.requires.below c.cat-item.result.now ((c.in_ok-daughters.ensures c.cat-item.result.now).0 (In-map (λ (x : Bor Name). x.now) there))

pub loop-cat-preserved : goal.loop-cat-preserved
loop-cat-preserved c = λ a b.
    let names = map (λ (x : Bor Name). x.now) c.deref-cat-items.result.now in
    let l : c.loop-cat.cat-index < length (map (λ (x : Bor Name). x.now) c.deref-cat-items.result.now) = omega (arith, c.loop-cat-test.true, length-map c.deref-cat-items.result.now (λ (x : Bor Name). x.now)) in
    let is : c.cat-item.result.now ≡ get_or (map (λ (x : Bor Name). x.now) c.deref-cat-items.result.now) c.loop-cat.cat-index [] =
    ap (λ (x : Bor Name). x.now) c.cat-item.is ∙ sym (get_or-map (λ (x : Bor Name). x.now) c.deref-cat-items.result.now c.loop-cat.cat-index c.cat-item.result [] c.loop-cat-test.true)
    in
    subst (λ (links : List Link). In (link a b) links ↔ (In (link a b) c.args.links.now.items ⊎ LinksDown c.args.cats.now c.place_of-from.result (take (c.loop-cat.cat-index + 1) (map (λ (x : Bor Name). x.now) c.deref-cat-items.result.now)) a b))
    (sym c.in_ok-push.ensures.items)
    (down_more c.args.cats.now c.requires.sorted c.place_of-from.result c.place_of.result c.args.links.now.items c.loop-cat.links.items names c.loop-cat.cat-index [] l (c.place_of.ensures ∙ ap (λ (x : Name). Some x) is) c.loop-cat.invariant a b)

pub returns : goal.returns
returns c =
    let names = map (λ (x : Bor Name). x.now) c.deref-cat-items.result.now in
    let l : length (map (λ (x : Bor Name). x.now) c.deref-cat-items.result.now) ≤ c.loop-cat.cat-index = omega (arith, c.loop-cat-test.false, length-map c.deref-cat-items.result.now (λ (x : Bor Name). x.now)) in
    let only = subst (λ (cats : List (Bor Name)). (cat : Name) → In cat (map (λ (x : Bor Name). x.now) cats) ↔ IsOnlyDaughter c.args.rule.now cat) (sym c.deref-cat-items.ensures.value) c.in_ok-daughters.ensures in
    down_all c.args.cats.now c.requires.sorted c.args.rule.now c.place_of-from.result c.args.links.now.items c.loop-cat.links.items names c.loop-cat.cat-index l c.place_of-from.ensures only c.loop-cat.invariant
