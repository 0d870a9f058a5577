use Rattle.std.proofs.Common.{◌≡◌, ◌∙◌, ℕ, List, Vec, Global, length, map, ap, sym, subst, arith}
use Rattle.lfg_terms.specs.declared.grammar.Rule.{Rule}
use Rattle.lfg_model.specs.Lists.{In}
use Rattle.lfg_model.specs.Terms.{Name}
use Rattle.lfg_grammar.specs.declared.reach.Link.{Link}
use Rattle.lfg_grammar.specs.Cycles.{AreRuleLinks, RanksFall, RanksRise, TellsCycles}
use Rattle.lfg_grammar.specs.Reach.{IsTableOf, turned}
use Rattle.lfg_grammar.proofs.CycleLaws.{rule_listed, daughter_listed, link_within, turned_within, tells_cycles, rise_from_fall}
use Rattle.lfg_grammar.proofs.cycles.first_unary_cycle.Goals.{In_ok-links}
use Rattle.lfg_grammar.proofs.cycles.first_unary_cycle.Goals as goal

pub category_links-requires-clause-above : goal.category_links-requires-clause-above
category_links-requires-clause-above c = λ r i.
    subst (λ (cats : List Name). In r.cat cats) (sym c.list-cats.ensures) (rule_listed c.args.grammar.now c.requires.cats r (subst (λ (rules : List Rule). In r rules) c.list-rules.ensures i))

pub category_links-requires-clause-below : goal.category_links-requires-clause-below
category_links-requires-clause-below c = λ r cat i d.
    subst (λ (cats : List Name). In cat cats) (sym c.list-cats.ensures) (daughter_listed c.args.grammar.now c.requires.cats r cat (subst (λ (rules : List Rule). In r rules) c.list-rules.ensures i) d)

-- the links are those of the grammar
are_links : (c : In_ok-links) → AreRuleLinks c.args.grammar.now.cats c.args.grammar.now.rules c.in_ok-links.links.items
are_links c =
    let listed = subst (λ (rules : List Rule). AreRuleLinks c.list-cats.result.now rules c.in_ok-links.links.items) c.list-rules.ensures c.in_ok-links.ensures in
    subst (λ (cats : List Name). AreRuleLinks cats c.args.grammar.now.rules c.in_ok-links.links.items) c.list-cats.ensures listed

pub table_of-requires : goal.table_of-requires
table_of-requires c = λ l i.
    let among = subst (λ (links : List Link). In l links) c.deref.ensures.value i in
    let within = (link_within c.args.grammar.now c.in_ok-links.links.items (are_links (goal.at.table_of-requires c).In_ok-links) l among).0 in
    omega (arith, within, ap length c.list-cats.ensures)

pub table_of-requires-2 : goal.table_of-requires-2
table_of-requires-2 c = λ l i.
    let same : c.deref-3.result.now ≡ map turned c.in_ok-links.links.items = c.deref-3.ensures.value ∙ c.in_ok-turned.ensures ∙ ap (map turned) c.deref-2.ensures.value in
    let among = subst (λ (links : List Link). In l links) same i in
    let within = turned_within c.args.grammar.now c.in_ok-links.links.items (are_links (goal.at.table_of-requires-2 c).In_ok-links) l among in
    omega (arith, within, ap length c.list-cats.ensures)

pub first_on_cycle-requires-clause-table : goal.first_on_cycle-requires-clause-table
first_on_cycle-requires-clause-table c =
    let g = c.args.grammar.now in
    let are = are_links (goal.at.first_on_cycle-requires-clause-table c).In_ok-links in
    let table = subst (λ (links : List Link). IsTableOf links c.in_ok-next.next.items) c.deref.ensures.value c.in_ok-next.ensures.table in
    let wide : length c.in_ok-next.next.items ≡ length c.args.grammar.now.cats = c.in_ok-next.ensures.length ∙ ap length c.list-cats.ensures in
    let tells = tells_cycles g c.requires.cats c.requires.once c.in_ok-links.links.items are c.in_ok-next.next.items table wide in
    subst (λ (next : List (Vec ℕ Global)). TellsCycles c.args.grammar.now next) (sym c.deref-8.ensures.value) tells

pub first_on_cycle-requires-clause-rising : goal.first_on_cycle-requires-clause-rising
first_on_cycle-requires-clause-rising c =
    let table = subst (λ (links : List Link). IsTableOf links c.in_ok-next.next.items) c.deref.ensures.value c.in_ok-next.ensures.table in
    let same : c.deref-3.result.now ≡ map turned c.in_ok-links.links.items = c.deref-3.ensures.value ∙ c.in_ok-turned.ensures ∙ ap (map turned) c.deref-2.ensures.value in
    let back = subst (λ (links : List Link). IsTableOf links c.in_ok-back.back.items) same c.in_ok-back.ensures.table in
    let fall = subst (λ (rows : List (Vec ℕ Global)). RanksFall rows c.in_ok-rising.rising.items) c.deref-6.ensures.value c.in_ok-rising.ensures in
    let rise = rise_from_fall c.in_ok-links.links.items c.in_ok-next.next.items c.in_ok-back.back.items c.in_ok-rising.rising.items table back fall in
    let here = subst (λ (rows : List (Vec ℕ Global)). RanksRise rows c.in_ok-rising.rising.items) (sym c.deref-8.ensures.value) rise in
    subst (λ (ranks : List ℕ). RanksRise c.deref-8.result.now ranks) (sym c.deref-10.ensures.value) here
