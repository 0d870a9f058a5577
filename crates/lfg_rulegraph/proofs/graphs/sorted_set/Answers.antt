use Rattle.std.proofs.Common.{◌≡◌, ℕ, Equal, arith}
use Rattle.std.specs.Ordering.{nat_cmp, eq_by_cmp}
use Rattle.std.proofs.Math.Dec.{eqb}
use Rattle.std.proofs.lemmas.Cmp.{nat_cmp_total}
use Rattle.std.proofs.lemmas.List.Filters.{dedup_is}
use Rattle.lfg_model.proofs.Ascending.{sorted_set}
use Rattle.lfg_rulegraph.proofs.graphs.sorted_set.Goals as goal

ties : (x y : ℕ) → nat_cmp x y ≡ Equal → x ≡ y
ties x y e = grind arith

by_cmp : (x y : ℕ) → eqb x y ≡ eq_by_cmp nat_cmp x y
by_cmp x y = grind arith

pub returns : goal.returns
returns c = sorted_set nat_cmp_total ties eqb by_cmp _ _ _ c.sort.ensures.permutation c.in_ok-sort.ensures.sorted (dedup_is eqb _ _ c.dedup.ensures.filtered)
