-- The greatest of some numbers, taken one by one.
use Rattle.std.proofs.Common.{◌≡◌, ℕ, zero, suc, ◌+◌, ◌<◌, ◌≤◌, max, List, [], ◌∷◌, ◌++◌, map, take, length, get_or, ap, ◌∙◌, arith}
use Rattle.std.proofs.lemmas.List.{map_more}
use Rattle.lfg_terms.specs.Order.{greatest}

pub greatest-push : (ns : List ℕ) (m : ℕ) → greatest (ns ++ m ∷ []) ≡ max (greatest ns) m
greatest-push [] m = omega arith
greatest-push (n ∷ ns) m = omega (arith, greatest-push ns m)

module _ {X : Type 0} (f : X → ℕ) where
  pub greatest_more : (xs : List X) (i : ℕ) (d : X) → i < length xs → greatest (map f (take (i + 1) xs)) ≡ max (greatest (map f (take i xs))) (f (get_or xs i d))
  greatest_more xs i d h = ap greatest (map_more f xs i d h) ∙ greatest-push (map f (take i xs)) (f (get_or xs i d))

  pub greatest-within : (xs : List X) (i : ℕ) (d : X) → i < length xs → f (get_or xs i d) ≤ greatest (map f xs)
  greatest-within [] i d h = omega arith
  greatest-within (x ∷ xs) zero d h = omega arith
  greatest-within (x ∷ xs) (suc i) d h = let k : f (get_or xs i d) ≤ greatest (map f xs) = greatest-within xs i d (omega arith) in omega arith
