use Rattle.std.proofs.Common.{refl}
use Rattle.std.specs.Ordering.{eq_by_cmp}
use Rattle.std.proofs.lemmas.List.Filters.{dedup_is}
use Rattle.lfg_model.proofs.Ascending.{sorted_set}
use Rattle.lfg_instant.specs.JunctionOrder.{junction_cmp, junction_cmp_total}
use Rattle.lfg_instant.proofs.JunctionTies.{junction_ties}
use Rattle.lfg_instant.proofs.junctions.sorted.Goals as goal

pub returns : goal.returns
returns c = sorted_set junction_cmp_total junction_ties (eq_by_cmp junction_cmp) (λ x y. refl) _ _ _ c.sort.ensures.permutation c.in_ok-sort.ensures.sorted (dedup_is (eq_by_cmp junction_cmp) _ _ c.dedup.ensures.filtered)
