use Rattle.std.proofs.Common.{refl}
use Rattle.std.specs.Ordering.{eq_by_cmp}
use Rattle.std.proofs.lemmas.List.Filters.{dedup_is}
use Rattle.lfg_model.specs.PairTexts.{pair_cmp}
use Rattle.lfg_model.proofs.ReadingLaws.{pair_cmp_total}
use Rattle.lfg_model.proofs.Ascending.{sorted_set}
use Rattle.lfg_unpack.proofs.Sorting.{pair_ties}
use Rattle.lfg_unpack.proofs.written.sorted.Goals as goal

pub returns : goal.returns
returns c = sorted_set pair_cmp_total pair_ties (eq_by_cmp pair_cmp) (λ x y. refl) _ _ _ c.sort.ensures.permutation c.in_ok-sort.ensures.sorted (dedup_is (eq_by_cmp pair_cmp) _ _ c.dedup.ensures.filtered)
