use Rattle.std.proofs.Common.{List, ap, refl, subst, ◌∙◌, ◌++◌, arith}
use Rattle.std.specs.Ordering.{eq_by_cmp}
use Rattle.std.proofs.lemmas.List.Filters.{dedup_is}
use Rattle.lfg_terms.specs.Order.{fact_cmp}
use Rattle.lfg_terms.specs.OrderLaws.{fact_cmp_total}
use Rattle.lfg_terms.specs.declared.node.Fact.{Fact}
use Rattle.lfg_terms.proofs.Ties.{fact_ties}
use Rattle.lfg_model.specs.Lists.{In, Lists}
use Rattle.lfg_model.specs.Terms.{tree_of}
use Rattle.lfg_model.specs.Trees.{tree_facts}
use Rattle.lfg_model.proofs.Ascending.{sorted_set}
use Rattle.lfg_solve.proofs.derivation.tree_facts.Goals as goal

pub returns : goal.returns
returns c =
    let same = sorted_set fact_cmp_total fact_ties (eq_by_cmp fact_cmp) (λ x y. refl) c.push_tree_facts.new.facts.items _ c.dedup.new.self.items c.sort.ensures.permutation c.in_ok-sort.ensures.sorted
    (dedup_is (eq_by_cmp fact_cmp) _ _ c.dedup.ensures.filtered) in
    let written = tree_facts c.args.tokens.now (tree_of c.args.derivation.now) 0 in
    λ fits. subst (λ (xs : List Fact). Lists fact_cmp (λ f. In f xs) c.dedup.new.self.items) (c.in_ok-push_tree_facts.ensures (omega arith) ∙ ap (λ (xs : List Fact). xs ++ written) c.new-facts.ensures.items) same
