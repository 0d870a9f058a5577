use Rattle.std.proofs.Common.{refl}
use Rattle.std.specs.Ordering.{eq_by_cmp}
use Rattle.std.proofs.lemmas.List.Filters.{dedup_is}
use Rattle.lfg_terms.specs.Order.{fact_cmp}
use Rattle.lfg_terms.specs.OrderLaws.{fact_cmp_total}
use Rattle.lfg_terms.proofs.Ties.{fact_ties}
use Rattle.lfg_model.proofs.Ascending.{sorted_set}
use Rattle.lfg_instant.proofs.facts.sorted_facts.Goals as goal

pub returns : goal.returns
returns c = sorted_set fact_cmp_total fact_ties (eq_by_cmp fact_cmp) (λ x y. refl) _ _ _ c.sort.ensures.permutation c.in_ok-sort.ensures.sorted (dedup_is (eq_by_cmp fact_cmp) _ _ c.dedup.ensures.filtered)
