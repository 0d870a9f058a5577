use Rattle.std.proofs.Common.{refl}
use Rattle.std.specs.Ordering.{eq_by_cmp}
use Rattle.std.proofs.lemmas.List.Filters.{dedup_is}
use Rattle.lfg_model.proofs.Ascending.{sorted_set}
use Rattle.lfg_packed.specs.ChoicePoints.{key_cmp}
use Rattle.lfg_packed.specs.KeyLaws.{key_cmp_total}
use Rattle.lfg_packed.proofs.KeyTies.{key_ties}
use Rattle.lfg_instant.proofs.sites.sorted_keys.Goals as goal

pub returns : goal.returns
returns c = sorted_set key_cmp_total key_ties (eq_by_cmp key_cmp) (λ x y. refl) _ _ _ c.sort.ensures.permutation c.in_ok-sort.ensures.sorted (dedup_is (eq_by_cmp key_cmp) _ _ c.dedup.ensures.filtered)
