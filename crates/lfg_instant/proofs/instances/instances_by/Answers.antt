use Rattle.std.proofs.Common.{◌≡◌, ℕ, ◌+◌, List, length, map, take, drop, sym, subst, ap, ◌∙◌}
use Rattle.lfg_terms.specs.declared.node.Fact.{Fact}
use Rattle.lfg_context.specs.Seen.{Set}
use Rattle.lfg_context.specs.Sets.{AreMade}
use Rattle.lfg_context.proofs.Growing.{are_made_grown}
use Rattle.lfg_model.specs.Charts.{points_of}
use Rattle.lfg_model.specs.Derive.{edge}
use Rattle.lfg_packed.proofs.Listing.{get_In}
use Rattle.lfg_instant.specs.Holding.{beside}
use Rattle.lfg_instant.specs.Junctions.{placed}
use Rattle.lfg_instant.specs.Literals.{key_literals, listed_of}
use Rattle.lfg_instant.proofs.InstantiateLaws.{part, drop_more, made_part, made_behind, made_beside, count_of_keys, literals_are, facts_are}
use Rattle.lfg_instant.proofs.instances.instances_by.Goals as goal

-- how the table is cut
sites_are : (table others sites : List Set) (n m k : ℕ) → n ≡ k → others ≡ drop n table → sites ≡ take m others → sites ≡ part k m table
sites_are table others sites n m k e o s = s ∙ ap (take m) (o ∙ ap (λ z. drop z table) e)

facts_beside_are : (table others facts : List Set) (n m k : ℕ) → n ≡ k → others ≡ drop n table → facts ≡ drop m others → facts ≡ drop (k + m) table
facts_beside_are table others facts n m k e o f = f ∙ ap (drop m) (o ∙ ap (λ z. drop z table) e) ∙ drop_more table k m

pub literals_of-requires-clause-made : goal.literals_of-requires-clause-made
literals_of-requires-clause-made c =
    let o = c.args.outline.now in
    let table = c.args.table.now in
    let nodes = length o.chart.now.edges + length (points_of o.chart.now.forks) in
    let many = length o.keys.now in
    let is = sites_are table c.split_at.result.1.now c.split_at-2.result.0.now _ many nodes (λ i. length (c.edges.ensures i) + length (c.points.ensures i)) c.split_at.ensures.back c.split_at-2.ensures.front in
    let P : List Set → Type 0 = λ xs. AreMade c.args.contexts.now (λ x. x) xs in
    subst P (sym is) (made_part c.args.contexts.now table nodes many c.requires.made)

pub returns-clause-literals : goal.returns-clause-literals
returns-clause-literals c =
    let o = c.args.outline.now in
    let l = c.args.layout.now in
    let g = o.grammar.now in
    let s = o.tokens.now in
    let table = c.args.table.now in
    let nodes = length o.chart.now.edges + length (points_of o.chart.now.forks) in
    let many = length o.keys.now in
    let is = sites_are table c.split_at.result.1.now c.split_at-2.result.0.now _ many nodes (λ i. length (c.edges.ensures i) + length (c.points.ensures i)) c.split_at.ensures.back c.split_at-2.ensures.front in
    literals_are g s l.junctions.items c.requires.junctions o.chart.now l.lists.items l.steps.items l.words.items o.keys.now o.facts.now c.requires.outline
    (edge g.root 0 (length s)) (get_In o.chart.now.edges c.args.root _ c.requires.root) table c.requires.table c.in_ok-literals.literals.items
    (λ a. c.in_ok-literals.ensures.each a ∙ (λ i. listed_of (key_literals g s (map placed (c.deref.ensures.value i)) a) o.keys.now (is i) a))

pub returns-clause-facts : goal.returns-clause-facts
returns-clause-facts c =
    let o = c.args.outline.now in
    let l = c.args.layout.now in
    let g = o.grammar.now in
    let s = o.tokens.now in
    let table = c.args.table.now in
    let nodes = length o.chart.now.edges + length (points_of o.chart.now.forks) in
    let many = length o.keys.now in
    let is = facts_beside_are table c.split_at.result.1.now c.split_at-2.result.1.now _ many nodes (λ i. length (c.edges.ensures i) + length (c.points.ensures i)) c.split_at.ensures.back c.split_at-2.ensures.back in
    facts_are g s l.junctions.items c.requires.junctions o.chart.now l.lists.items l.steps.items l.words.items o.keys.now o.facts.now c.requires.outline
    (edge g.root 0 (length s)) (get_In o.chart.now.edges c.args.root _ c.requires.root) table c.requires.table c.in_ok-tree.tree.items
    (c.in_ok-tree.ensures ∙ ap (λ (xs : List Set). beside o.facts.now xs) is)

pub returns-clause-count : goal.returns-clause-count
returns-clause-count c =
    let o = c.args.outline.now in
    count_of_keys o.grammar.now o.tokens.now o.keys.now (length c.in_ok-literals.literals.items) c.requires.outline.all_keys c.in_ok-literals.ensures.count

pub returns-clause-facts_made : goal.returns-clause-facts_made
returns-clause-facts_made c =
    let o = c.args.outline.now in
    let table = c.args.table.now in
    let nodes = length o.chart.now.edges + length (points_of o.chart.now.forks) in
    let many = length o.keys.now in
    let is = facts_beside_are table c.split_at.result.1.now c.split_at-2.result.1.now _ many nodes (λ i. length (c.edges.ensures i) + length (c.points.ensures i)) c.split_at.ensures.back c.split_at-2.ensures.back in
    let made = made_beside c.literals_of.new.contexts o.facts.now (drop (nodes + many) table) (are_made_grown c.in_ok-literals.ensures.grown (made_behind c.args.contexts.now table (nodes + many) c.requires.made)) in
    let P : List (Fact × Set) → Type 0 = λ xs. AreMade c.literals_of.new.contexts (λ x. x.1) xs in
    subst P (sym (c.in_ok-tree.ensures ∙ ap (λ (xs : List Set). beside o.facts.now xs) is)) made
