use Rattle.std.proofs.Common.{refl}
use Rattle.std.specs.Ordering.{eq_by_cmp}
use Rattle.std.proofs.lemmas.List.Filters.{dedup_is}
use Rattle.lfg_model.specs.Points.{next_cmp, next_cmp_total}
use Rattle.lfg_model.proofs.Ascending.{sorted_set}
use Rattle.lfg_model.proofs.PointTies.{next_ties}
use Rattle.lfg_chart.proofs.nexts.sorted.Goals as goal

pub returns : goal.returns
returns c = sorted_set next_cmp_total next_ties (eq_by_cmp next_cmp) (λ x y. refl) _ _ _ c.sort.ensures.permutation c.in_ok-sort.ensures.sorted (dedup_is (eq_by_cmp next_cmp) _ _ c.dedup.ensures.filtered)
