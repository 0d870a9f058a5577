use Rattle.std.proofs.Common.{◌≡◌, ℕ, Option, None, Some, List, length, sym, subst}
use Rattle.std.specs.Prelude.{IfNone}
use Rattle.lfg_terms.specs.declared.literal.Literal.{Literal}
use Rattle.lfg_terms.specs.declared.node.Fact.{Fact}
use Rattle.lfg_context.specs.Seen.{Set}
use Rattle.lfg_packed.specs.Counts.{IsLiteralCount}
use Rattle.lfg_instant.specs.Instants.{AreLiteralsOf, AreFactsOf}
use Rattle.lfg_instant.proofs.InstantiateLaws.{no_root, no_literals, nothing_of_facts, no_count}
use Rattle.lfg_instant.proofs.instances.instances_of.Goals as goal

absent_is : (P : Type 0) (o : Option ℕ) → o ≡ None → IfNone o P → P
absent_is P None e h = h
absent_is P (Some x) e h = absurd (cc)

pub returns-in-None-clause-literals : goal.returns-in-None-clause-literals
returns-in-None-clause-literals c =
    let o = c.args.outline.now in
    let l = c.args.layout.now in
    let g = o.grammar.now in
    let s = o.tokens.now in
    let away = absent_is _ c.in_ok-root.field-0 c.in-None.is c.in_ok-root.ensures.absent in
    let none = no_root g s o.chart.now.edges o.chart.now.forks c.requires.outline.is_chart away in
    let P : List (Literal × Set) → Type 0 = λ ls. AreLiteralsOf g s ls in
    subst P (sym c.new.ensures.items) (no_literals g s l.junctions.items c.requires.junctions o.chart.now l.lists.items l.steps.items l.words.items o.keys.now o.facts.now c.requires.outline none)

pub returns-in-None-clause-facts : goal.returns-in-None-clause-facts
returns-in-None-clause-facts c =
    let o = c.args.outline.now in
    let l = c.args.layout.now in
    let g = o.grammar.now in
    let s = o.tokens.now in
    let away = absent_is _ c.in_ok-root.field-0 c.in-None.is c.in_ok-root.ensures.absent in
    let none = no_root g s o.chart.now.edges o.chart.now.forks c.requires.outline.is_chart away in
    let P : List (Fact × Set) → Type 0 = λ ls. AreFactsOf g s ls in
    subst P (sym c.new-in-None.ensures.items) (nothing_of_facts g s l.junctions.items c.requires.junctions o.chart.now l.lists.items l.steps.items l.words.items o.keys.now o.facts.now c.requires.outline none)

pub returns-in-None-clause-count : goal.returns-in-None-clause-count
returns-in-None-clause-count c =
    let o = c.args.outline.now in
    let l = c.args.layout.now in
    let g = o.grammar.now in
    let s = o.tokens.now in
    let away = absent_is _ c.in_ok-root.field-0 c.in-None.is c.in_ok-root.ensures.absent in
    let none = no_root g s o.chart.now.edges o.chart.now.forks c.requires.outline.is_chart away in
    let P : List (Literal × Set) → Type 0 = λ ls. IsLiteralCount g s (length ls) in
    subst P (sym c.new.ensures.items) (no_count g s l.junctions.items c.requires.junctions o.chart.now l.lists.items l.steps.items l.words.items o.keys.now o.facts.now c.requires.outline none)
