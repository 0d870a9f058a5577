use Rattle.std.proofs.Common.{◌⊎◌, List, [], subst}
use Rattle.lfg_terms.specs.declared.node.Fact.{Fact}
use Rattle.lfg_model.proofs.ChartLaws.{Lists-same}
use Rattle.lfg_instant.specs.Collects.{Collects}
use Rattle.lfg_instant.specs.Facts.{IsUnderOf, IsWordFactOf}
use Rattle.lfg_instant.proofs.CollectLaws.{collects_trans, collected}
use Rattle.lfg_instant.proofs.FactLaws.{is_tree_fact}
use Rattle.lfg_instant.proofs.facts.tree_facts_of.Goals as goal

pub returns : goal.returns
returns c =
    let g = c.args.grammar.now in
    let s = c.args.tokens.now in
    let P : List Fact → Type 0 = λ xs. Collects xs c.add_under_facts.new.facts.items (IsUnderOf g c.args.steps.now) in
    let all = collects_trans [] c.add_under_facts.new.facts.items c.add_word_facts.new.facts.items (IsUnderOf g c.args.steps.now) (IsWordFactOf s c.args.words.now)
    (λ f. IsUnderOf g c.args.steps.now f ⊎ IsWordFactOf s c.args.words.now f) (subst P c.new-facts.ensures.items c.in_ok-add_under_facts.ensures) c.in_ok-add_word_facts.ensures
    (λ f. ((λ h. h), (λ h. h))) in
    let is = is_tree_fact g s c.requires.loaded c.args.chart.now c.requires.chart c.args.lists.now c.requires.lists c.args.steps.now c.requires.steps c.args.words.now c.requires.words in
    let members = collected c.add_word_facts.new.facts.items (λ f. IsUnderOf g c.args.steps.now f ⊎ IsWordFactOf s c.args.words.now f) all in
    Lists-same (λ f. (
      (λ i. (is f).0 ((members f).0 i)),
      (λ t. (members f).1 ((is f).1 t)),
    )) c.in_ok-sorted.ensures
