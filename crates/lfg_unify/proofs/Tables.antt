-- Nodes in a table, and what stands for what.
use Rattle.std.proofs.Common.{◌≡◌, ℕ, zero, suc, ◌+◌, ◌<◌, ◌≤◌, List, [], ◌∷◌, ◌++◌, length, take, get_or, Some, refl, sym, ap, subst, ◌∙◌, arith, inl, inr, ◌⊎◌, Ordering, Less, Equal, Greater}
use Rattle.std.specs.Prelude.{◌↔◌, slice_get, Result, Ok, Err, IfSome, IfNone}
use Rattle.std.specs.Result.{result_ok}
use Rattle.std.specs.List.{flat_map, HoldsAt}
use Rattle.std.specs.List.Sorted.{IsSearchInRange, IsBinarySearchResult, IsStrictlySortedBy, IsNonDecreasingBy, IsPartitionPoint}
use Rattle.std.specs.Ordering.{ordering_index, ordering_reverse}
use Rattle.std.specs.Cmp.{IsTotalOrder}
use Rattle.std.proofs.lemmas.Option.{same_Some, slice_get-get_or, slice_get_within, get_or_from_slice_get}
use Rattle.std.proofs.lemmas.Map.Keys.{Less-from_sorted}
use Rattle.lfg_model.specs.Lists.{In, here, later}
use Rattle.lfg_model.proofs.ListLaws.{In-append_left, In-append_right, In-append_cases, In-one, In-nil, In-place}
use Rattle.lfg_model.proofs.Ascending.{once_from_total}

-- ---- places

pub In_get : {X : Type 0} {x : X} {xs : List X} → In x xs → (k : ℕ) × (slice_get xs k ≡ Some x)
In_get here = (0, refl)
In_get (later h) = let r = In_get h in (suc r.0, r.1)

pub get_In : {X : Type 0} (xs : List X) (k : ℕ) (x : X) → slice_get xs k ≡ Some x → In x xs
get_In [] k x h = cc
get_In (y ∷ xs) zero x h = rw (same_Some y x h) here
get_In (y ∷ xs) (suc k) x h = later (get_In xs k x h)

pub one_at : {X : Type 0} (xs : List X) (k : ℕ) (x y : X) → slice_get xs k ≡ Some x → slice_get xs k ≡ Some y → x ≡ y
one_at xs k x y h g = same_Some x y (sym h ∙ g)

module _ {X : Type 0} (cmp : X → X → Ordering) (total : IsTotalOrder cmp) where
  before_not : (xs : List X) (i j : ℕ) (x : X) → IsStrictlySortedBy cmp xs → i < j → slice_get xs i ≡ Some x → slice_get xs j ≡ Some x → ⊥
  before_not xs i j x s l h g =
      let less = Less-from_sorted cmp xs i j x s l (slice_get_within xs j x g) in
      let e : cmp x x ≡ Less = rw (get_or_from_slice_get xs i x x h, get_or_from_slice_get xs j x x g) at less in
      once_from_total total x x e e

  -- an element of a table that ascends has one place
  pub one_place : (xs : List X) (i j : ℕ) (x : X) → IsStrictlySortedBy cmp xs → slice_get xs i ≡ Some x → slice_get xs j ≡ Some x → i ≡ j
  one_place xs i j x s h g =
      let a : ¬ (i < j) = λ l. before_not xs i j x s l h g in
      let b : ¬ (j < i) = λ l. before_not xs j i x s l g h in
      omega (arith, a, b)

  module _ (ties : (x y : X) → cmp x y ≡ Equal → x ≡ y) where
    index_le : (a b x : X) → cmp a b ≡ Less → ordering_index (cmp a x) ≤ ordering_index (cmp b x)
    index_le a b x l = go (cmp b x) refl
      where
        go : (o : Ordering) → cmp b x ≡ o → ordering_index (cmp a x) ≤ ordering_index (cmp b x)
        go Less e = let f = total.trans a b x l e in rw (e, f) (omega arith)
        go Equal e = let f : cmp a x ≡ Less = ap (λ z. cmp a z) (sym (ties b x e)) ∙ l in rw (e, f) (omega arith)
        go Greater e = rw e (at_most (cmp a x))
          where
            at_most : (o : Ordering) → ordering_index o ≤ 2
            at_most Less = omega arith
            at_most Equal = omega arith
            at_most Greater = omega arith

    rises : (xs : List X) (x : X) → IsStrictlySortedBy cmp xs → IsNonDecreasingBy (λ y. ordering_index (cmp y x)) xs
    rises xs x s i j d l h = elim (le_cases i j l) [
      | inl e ↦ rw e (omega arith)
      | inr b ↦ index_le (get_or xs i d) (get_or xs j d) x (Less-from_sorted cmp xs i j d s b h)
    ]
      where
        le_cases : (i j : ℕ) → i ≤ j → (i ≡ j) ⊎ (i < j)
        le_cases i j l = grind arith

    same_itself : (x : X) → cmp x x ≡ Equal
    same_itself x = go (cmp x x) refl
      where
        go : (o : Ordering) → cmp x x ≡ o → cmp x x ≡ Equal
        go Less e = absurd (once_from_total total x x e e)
        go Equal e = e
        go Greater e =
            let f : cmp x x ≡ Less = total.antisymm x x ∙ ap ordering_reverse e in
            absurd (once_from_total total x x f f)

    -- where a search finds no place, the element is not there
    pub not_there : (xs : List X) (x : X) (i : ℕ) → IsStrictlySortedBy cmp xs
        → (IsNonDecreasingBy (λ y. ordering_index (cmp y x)) xs → IsPartitionPoint (λ y. cmp y x ≡ Less) (λ y. cmp y x ≡ Greater) xs i) → ¬ In x xs
    not_there xs x i s point h =
        let p = point (rises xs x s) in
        let at = In-place h in
        let same : cmp (get_or xs at.0 x) x ≡ Equal = rw (at.2 x) (same_itself x) in
        elim (sides at.0 i) [
          | inl l ↦ let e : cmp (get_or xs at.0 x) x ≡ Less = p.0 at.0 x (omega arith) l in let no : Less ≡ Equal = sym e ∙ same in cc
          | inr l ↦ let e : cmp (get_or xs at.0 x) x ≡ Greater = p.1 at.0 x l at.1 in let no : Greater ≡ Equal = sym e ∙ same in cc
        ]
      where
        sides : (k i : ℕ) → (k < i) ⊎ (i ≤ k)
        sides k i = grind arith

    pub found_at : (xs : List X) (x : X) (i : ℕ) → i < length xs → HoldsAt (λ y. cmp y x ≡ Equal) xs i → slice_get xs i ≡ Some x
    found_at xs x i l h = slice_get-get_or xs i x l ∙ ap (λ y. Some y) (ties (get_or xs i x) x (h x))

-- ---- what a binary search answers

module _ {X : Type 0} (cmp : X → X → Ordering) (total : IsTotalOrder cmp) (ties : (x y : X) → cmp x y ≡ Equal → x ≡ y) where
  pub place_found : (xs : List X) (x : X) (r : Result ℕ ℕ) → IsSearchInRange r (length xs) → IsBinarySearchResult (λ y. cmp y x) xs r → IfSome (result_ok r) (λ place. slice_get xs place ≡ Some x)
  place_found xs x (Ok i) b h = found_at cmp total ties xs x i b h
  place_found xs x (Err i) b h = tt

  pub place_missing : (xs : List X) (x : X) (r : Result ℕ ℕ) → IsBinarySearchResult (λ y. cmp y x) xs r → IfNone (result_ok r) (IsStrictlySortedBy cmp xs → ¬ In x xs)
  place_missing xs x (Ok i) h = tt
  place_missing xs x (Err i) h = λ s. not_there cmp total ties xs x i s h
