-- What relabelling does to the sum of the labels.
use Rattle.std.proofs.Common.{◌≡◌, ℕ, zero, suc, ◌<◌, ◌≤◌, List, [], ◌∷◌, map, Some, sym, subst, arith}
use Rattle.std.specs.Prelude.{slice_get}
use Rattle.std.proofs.lemmas.Bool.Decides.{nat_tests}
use Rattle.lfg_solve.specs.Links.{relabelled, total}

one-less : (high low x : ℕ) → low < high → relabelled high low x ≤ x
one-less high low x h = grind (arith, nat_tests)

one-fewer : (high low : ℕ) → low < high → relabelled high low high < high
one-fewer high low h = grind (arith, nat_tests)

pub total-relabelled : (high low : ℕ) (xs : List ℕ) → low < high → total (map (relabelled high low) xs) ≤ total xs
total-relabelled high low [] h = omega arith
total-relabelled high low (x ∷ xs) h = omega (arith, one-less high low x h, total-relabelled high low xs h)

pub total-relabelled_one : (high low : ℕ) (xs : List ℕ) (k : ℕ) → low < high → slice_get xs k ≡ Some high → total (map (relabelled high low) xs) < total xs
total-relabelled_one high low [] k h e = cc
total-relabelled_one high low (x ∷ xs) zero h e =
    let same : x ≡ high = cc in
    let less : relabelled high low x < x = subst (λ (y : ℕ). relabelled high low y < y) (sym same) (one-fewer high low h) in
    omega (arith, less, total-relabelled high low xs h)
total-relabelled_one high low (x ∷ xs) (suc k) h e = omega (arith, one-less high low x h, total-relabelled_one high low xs k h e)

pub ruleset relabelling = (total-relabelled, total-relabelled_one)
