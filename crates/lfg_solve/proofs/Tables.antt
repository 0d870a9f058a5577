-- Nodes in a table, and what stands for what.
use Rattle.std.proofs.Common.{◌≡◌, ℕ, zero, suc, ◌+◌, ◌<◌, ◌≤◌, List, [], ◌∷◌, ◌++◌, length, take, get_or, Some, refl, sym, ap, subst, ◌∙◌, arith, inl, inr, ◌⊎◌, Ordering, Less, Equal, Greater}
use Rattle.std.specs.Prelude.{◌↔◌, slice_get, Result, Ok, Err, IfSome, IfNone}
use Rattle.std.specs.Result.{result_ok}
use Rattle.std.specs.List.{flat_map, HoldsAt}
use Rattle.std.specs.List.Sorted.{IsSearchInRange, IsBinarySearchResult, IsStrictlySortedBy, IsNonDecreasingBy, IsPartitionPoint}
use Rattle.std.specs.Ordering.{ordering_index, ordering_reverse}
use Rattle.std.specs.Cmp.{IsTotalOrder}
use Rattle.std.proofs.lemmas.Option.{same_Some, slice_get-get_or, slice_get_within, get_or_from_slice_get}
use Rattle.std.proofs.lemmas.Map.Keys.{Less-from_sorted}
use Rattle.lfg_model.specs.Lists.{In, here, later}
use Rattle.lfg_model.proofs.ListLaws.{In-append_left, In-append_right, In-append_cases, In-one, In-nil, In-place}
use Rattle.lfg_model.proofs.Ascending.{once_from_total}
use Rattle.lfg_solve.specs.Numbers.{Corresponds}
use Rattle.lfg_solve.proofs.Prefixes.{flat_map-take_more}

-- ---- places

pub In_get : {X : Type 0} {x : X} {xs : List X} → In x xs → (k : ℕ) × (slice_get xs k ≡ Some x)
In_get here = (0, refl)
In_get (later h) = let r = In_get h in (suc r.0, r.1)

pub get_In : {X : Type 0} (xs : List X) (k : ℕ) (x : X) → slice_get xs k ≡ Some x → In x xs
get_In [] k x h = cc
get_In (y ∷ xs) zero x h = rw (same_Some y x h) here
get_In (y ∷ xs) (suc k) x h = later (get_In xs k x h)

pub one_at : {X : Type 0} (xs : List X) (k : ℕ) (x y : X) → slice_get xs k ≡ Some x → slice_get xs k ≡ Some y → x ≡ y
one_at xs k x y h g = same_Some x y (sym h ∙ g)

module _ {X : Type 0} (cmp : X → X → Ordering) (total : IsTotalOrder cmp) where
  before_not : (xs : List X) (i j : ℕ) (x : X) → IsStrictlySortedBy cmp xs → i < j → slice_get xs i ≡ Some x → slice_get xs j ≡ Some x → ⊥
  before_not xs i j x s l h g =
      let less = Less-from_sorted cmp xs i j x s l (slice_get_within xs j x g) in
      let e : cmp x x ≡ Less = rw (get_or_from_slice_get xs i x x h, get_or_from_slice_get xs j x x g) at less in
      once_from_total total x x e e

  -- an element of a table that ascends has one place
  pub one_place : (xs : List X) (i j : ℕ) (x : X) → IsStrictlySortedBy cmp xs → slice_get xs i ≡ Some x → slice_get xs j ≡ Some x → i ≡ j
  one_place xs i j x s h g =
      let a : ¬ (i < j) = λ l. before_not xs i j x s l h g in
      let b : ¬ (j < i) = λ l. before_not xs j i x s l g h in
      omega (arith, a, b)

  module _ (ties : (x y : X) → cmp x y ≡ Equal → x ≡ y) where
    index_le : (a b x : X) → cmp a b ≡ Less → ordering_index (cmp a x) ≤ ordering_index (cmp b x)
    index_le a b x l = go (cmp b x) refl
      where
        go : (o : Ordering) → cmp b x ≡ o → ordering_index (cmp a x) ≤ ordering_index (cmp b x)
        go Less e = let f = total.trans a b x l e in rw (e, f) (omega arith)
        go Equal e = let f : cmp a x ≡ Less = ap (λ z. cmp a z) (sym (ties b x e)) ∙ l in rw (e, f) (omega arith)
        go Greater e = rw e (at_most (cmp a x))
          where
            at_most : (o : Ordering) → ordering_index o ≤ 2
            at_most Less = omega arith
            at_most Equal = omega arith
            at_most Greater = omega arith

    rises : (xs : List X) (x : X) → IsStrictlySortedBy cmp xs → IsNonDecreasingBy (λ y. ordering_index (cmp y x)) xs
    rises xs x s i j d l h = elim (le_cases i j l) [
      | inl e ↦ rw e (omega arith)
      | inr b ↦ index_le (get_or xs i d) (get_or xs j d) x (Less-from_sorted cmp xs i j d s b h)
    ]
      where
        le_cases : (i j : ℕ) → i ≤ j → (i ≡ j) ⊎ (i < j)
        le_cases i j l = grind arith

    same_itself : (x : X) → cmp x x ≡ Equal
    same_itself x = go (cmp x x) refl
      where
        go : (o : Ordering) → cmp x x ≡ o → cmp x x ≡ Equal
        go Less e = absurd (once_from_total total x x e e)
        go Equal e = e
        go Greater e =
            let f : cmp x x ≡ Less = total.antisymm x x ∙ ap ordering_reverse e in
            absurd (once_from_total total x x f f)

    -- where a search finds no place, the element is not there
    pub not_there : (xs : List X) (x : X) (i : ℕ) → IsStrictlySortedBy cmp xs
        → (IsNonDecreasingBy (λ y. ordering_index (cmp y x)) xs → IsPartitionPoint (λ y. cmp y x ≡ Less) (λ y. cmp y x ≡ Greater) xs i) → ¬ In x xs
    not_there xs x i s point h =
        let p = point (rises xs x s) in
        let at = In-place h in
        let same : cmp (get_or xs at.0 x) x ≡ Equal = rw (at.2 x) (same_itself x) in
        elim (sides at.0 i) [
          | inl l ↦ let e : cmp (get_or xs at.0 x) x ≡ Less = p.0 at.0 x (omega arith) l in let no : Less ≡ Equal = sym e ∙ same in cc
          | inr l ↦ let e : cmp (get_or xs at.0 x) x ≡ Greater = p.1 at.0 x l at.1 in let no : Greater ≡ Equal = sym e ∙ same in cc
        ]
      where
        sides : (k i : ℕ) → (k < i) ⊎ (i ≤ k)
        sides k i = grind arith

    pub found_at : (xs : List X) (x : X) (i : ℕ) → i < length xs → HoldsAt (λ y. cmp y x ≡ Equal) xs i → slice_get xs i ≡ Some x
    found_at xs x i l h = slice_get-get_or xs i x l ∙ ap (λ y. Some y) (ties (get_or xs i x) x (h x))

-- ---- what stands for what

module _ {X Y : Type 0} (R : Y → X → Type 0) where
  pub Corresponds-none : (P : X → Type 0) → ((x : X) → ¬ P x) → Corresponds R P []
  Corresponds-none P n = record { sound = λ y i. In-nil i; all = λ x p. absurd (n x p) }

  pub Corresponds-one : (P : X → Type 0) (x : X) (y : Y) → P x → ((z : X) → P z → z ≡ x) → R y x → Corresponds R P (y ∷ [])
  Corresponds-one P x y p one r = record {
    sound = λ z i. let e : z ≡ y = In-one i in (x, p, subst (λ (w : Y). R w x) (sym e) r);
    all = λ z q. (y, here, subst (λ (w : X). R y w) (sym (one z q)) r);
  }

  pub Corresponds-iff : (P Q : X → Type 0) (ys : List Y) → ((x : X) → P x ↔ Q x) → Corresponds R P ys → Corresponds R Q ys
  Corresponds-iff P Q ys same c = record {
    sound = λ y i. let s = c.sound y i in (s.0, (same s.0).0 s.1, s.2);
    all = λ x q. c.all x ((same x).1 q);
  }

  pub Corresponds-both : (P Q S : X → Type 0) (ys zs : List Y) → ((x : X) → S x ↔ (P x ⊎ Q x)) → Corresponds R P ys → Corresponds R Q zs → Corresponds R S (ys ++ zs)
  Corresponds-both P Q S ys zs split c d = record {
    sound = λ y i. elim (In-append_cases ys zs i) [
      | inl a ↦ let s = c.sound y a in (s.0, (split s.0).1 (inl s.1), s.2)
      | inr b ↦ let s = d.sound y b in (s.0, (split s.0).1 (inr s.1), s.2)
    ];
    all = λ x p. elim ((split x).0 p) [
      | inl a ↦ let s = c.all x a in (s.0, In-append_left zs s.1, s.2)
      | inr b ↦ let s = d.all x b in (s.0, In-append_right ys s.1, s.2)
    ];
  }

  -- one more element of a list that is read
  pub Corresponds-read : {Z : Type 0} (f : Z → List X) (ls : List Z) (k : ℕ) (z : Z) (ys zs : List Y) → k < length ls → z ≡ get_or ls k z
      → Corresponds R (λ x. In x (flat_map f (take k ls))) ys → Corresponds R (λ x. In x (f z)) zs → Corresponds R (λ x. In x (flat_map f (take (k + 1) ls))) (ys ++ zs)
  Corresponds-read f ls k z ys zs l e c d =
      Corresponds-both (λ x. In x (flat_map f (take k ls))) (λ x. In x (f z)) (λ x. In x (flat_map f (take (k + 1) ls))) ys zs split c d
    where
      split : (x : X) → In x (flat_map f (take (k + 1) ls)) ↔ (In x (flat_map f (take k ls)) ⊎ In x (f z))
      split x = rw (flat_map-take_more f ls k z l e) (In-append_cases (flat_map f (take k ls)) (f z), λ h. elim h [ inl a ↦ In-append_left (f z) a | inr b ↦ In-append_right (flat_map f (take k ls)) b ])

-- ---- what a binary search answers

module _ {X : Type 0} (cmp : X → X → Ordering) (total : IsTotalOrder cmp) (ties : (x y : X) → cmp x y ≡ Equal → x ≡ y) where
  pub place_found : (xs : List X) (x : X) (r : Result ℕ ℕ) → IsSearchInRange r (length xs) → IsBinarySearchResult (λ y. cmp y x) xs r → IfSome (result_ok r) (λ place. slice_get xs place ≡ Some x)
  place_found xs x (Ok i) b h = found_at cmp total ties xs x i b h
  place_found xs x (Err i) b h = tt

  pub place_missing : (xs : List X) (x : X) (r : Result ℕ ℕ) → IsBinarySearchResult (λ y. cmp y x) xs r → IfNone (result_ok r) (IsStrictlySortedBy cmp xs → ¬ In x xs)
  place_missing xs x (Ok i) h = tt
  place_missing xs x (Err i) h = λ s. not_there cmp total ties xs x i s h
