-- Where a string stands in an ordered list, or would stand.
use Rattle.std.proofs.Common.{◌≡◌, ℕ, zero, suc, ◌+◌, ◌<◌, ◌≤◌, List, [], ◌∷◌, length, take, drop, get_or, refl, sym, ap, subst, ◌∙◌, arith, inl, inr, ◌⊎◌, Ordering, Less, Equal, Greater}
use Rattle.std.specs.Prelude.{Result, Ok, Err, IfOk, IfErr}
use Rattle.std.specs.List.{insert, AllByRecursion}
use Rattle.std.specs.List.Sorted.{IsSearchInRange, IsBinarySearchResult, IsStrictlySortedBy, IsNonDecreasingBy, IsPartitionPoint}
use Rattle.std.specs.Ordering.{ordering_index, ordering_reverse}
use Rattle.std.specs.Cmp.{IsTotalOrder}
use Rattle.std.proofs.lemmas.List.{take-append-drop}
use Rattle.std.proofs.lemmas.Map.Keys.{Less-from_sorted}
use Rattle.lfg_terms.specs.PathOrder.{path_cmp, path_cmp_total}
use Rattle.lfg_terms.proofs.Ties.{path_ties}
use Rattle.lfg_model.specs.Lists.{In, here, later, Once, none, more}
use Rattle.lfg_model.specs.Terms.{Path}
use Rattle.lfg_model.proofs.ListLaws.{In-append_left, In-append_right, In-append_cases, In-cons_cases, In-place, In-at, In-take}
use Rattle.lfg_model.proofs.Ascending.{all_in, once_from_total}
use Rattle.lfg_regpath.specs.Sets.{IsPlace}

-- ---- lists

pub length-insert : {X : Type 0} (xs : List X) (i : ℕ) (x : X) → length (insert xs i x) ≡ length xs + 1
length-insert xs zero x = omega arith
length-insert [] (suc i) x = refl
length-insert (y ∷ xs) (suc i) x = omega (arith, length-insert xs i x)

In_drop : {X : Type 0} {x : X} (i : ℕ) (xs : List X) → In x (drop i xs) → In x xs
In_drop zero xs h = h
In_drop (suc i) [] h = h
In_drop (suc i) (y ∷ xs) h = later (In_drop i xs h)

pub In_insert_cases : {X : Type 0} (xs : List X) (i : ℕ) (p w : X) → In w (insert xs i p) → In w xs ⊎ (w ≡ p)
In_insert_cases xs i p w h = elim (In-append_cases (take i xs) (p ∷ drop i xs) h) [
  | inl a ↦ inl (In-take i xs a)
  | inr b ↦ elim (In-cons_cases b) [ inl e ↦ inr e | inr d ↦ inl (In_drop i xs d) ]
]

pub In_insert_still : {X : Type 0} (xs : List X) (i : ℕ) (p w : X) → In w xs → In w (insert xs i p)
In_insert_still {X} xs i p w h =
    elim (In-append_cases (take i xs) (drop i xs) (subst (λ (ys : List X). In w ys) (sym (take-append-drop i xs)) h)) [
      | inl a ↦ In-append_left (p ∷ drop i xs) a
      | inr b ↦ In-append_right (take i xs) (later b)
    ]

-- ---- orders

module _ {X : Type 0} (cmp : X → X → Ordering) (total : IsTotalOrder cmp) where
  pub all_of : (P : X → Type 0) (xs : List X) → ((y : X) → In y xs → P y) → AllByRecursion P xs
  all_of P [] f = tt
  all_of P (x ∷ xs) f = (f x here, all_of P xs (λ y h. f y (later h)))

  pub once_in : (xs : List X) → IsStrictlySortedBy cmp xs → Once xs
  unfolding IsStrictlySortedBy
  once_in [] s = none
  once_in (x ∷ xs) s = more (λ h. let e = all_in (λ y. cmp x y ≡ Less) s.0 h in once_from_total total x x e e) (once_in xs s.1)

  turned : (x y : X) → cmp x y ≡ Greater → cmp y x ≡ Less
  turned x y e = total.antisymm y x ∙ ap ordering_reverse e

  pub insert_ascends : (xs : List X) (i : ℕ) (p : X) → IsStrictlySortedBy cmp xs → i ≤ length xs
      → ((k : ℕ) (d : X) → k < i → cmp (get_or xs k d) p ≡ Less) → ((k : ℕ) (d : X) → i ≤ k → k < length xs → cmp (get_or xs k d) p ≡ Greater)
      → IsStrictlySortedBy cmp (insert xs i p)
  unfolding IsStrictlySortedBy
  insert_ascends xs zero p s l lo hi =
      (all_of (λ y. cmp p y ≡ Less) xs (λ y h. let at = In-place h in turned y p (subst (λ (z : X). cmp z p ≡ Greater) (at.2 y) (hi at.0 y (omega arith) at.1))), s)
  insert_ascends [] (suc i) p s l lo hi = absurd (omega arith)
  insert_ascends (x ∷ xs) (suc i) p s l lo hi = (
    all_of (λ y. cmp x y ≡ Less) (insert xs i p) (λ y h. elim (In_insert_cases xs i p y h) [
      | inl a ↦ all_in (λ z. cmp x z ≡ Less) s.0 a
      | inr e ↦ subst (λ (z : X). cmp x z ≡ Less) (sym e) (lo 0 x (omega arith))
    ]),
    insert_ascends xs i p s.1 (omega arith) (λ k d a. lo (suc k) d (omega arith)) (λ k d a b. hi (suc k) d (omega arith) (omega arith)),
  )

  module _ (ties : (x y : X) → cmp x y ≡ Equal → x ≡ y) where
    index_le : (a b x : X) → cmp a b ≡ Less → ordering_index (cmp a x) ≤ ordering_index (cmp b x)
    index_le a b x l = go (cmp b x) refl
      where
        go : (o : Ordering) → cmp b x ≡ o → ordering_index (cmp a x) ≤ ordering_index (cmp b x)
        go Less e = let f = total.trans a b x l e in rw (e, f) (omega arith)
        go Equal e = let f : cmp a x ≡ Less = ap (λ z. cmp a z) (sym (ties b x e)) ∙ l in rw (e, f) (omega arith)
        go Greater e = rw e (at_most (cmp a x))
          where
            at_most : (o : Ordering) → ordering_index o ≤ 2
            at_most Less = omega arith
            at_most Equal = omega arith
            at_most Greater = omega arith

    pub rises : (xs : List X) (x : X) → IsStrictlySortedBy cmp xs → IsNonDecreasingBy (λ y. ordering_index (cmp y x)) xs
    rises xs x s i j d l h = elim (le_cases i j l) [
      | inl e ↦ rw e (omega arith)
      | inr b ↦ index_le (get_or xs i d) (get_or xs j d) x (Less-from_sorted cmp xs i j d s b h)
    ]
      where
        le_cases : (i j : ℕ) → i ≤ j → (i ≡ j) ⊎ (i < j)
        le_cases i j l = grind arith

    same_itself : (x : X) → cmp x x ≡ Equal
    same_itself x = go (cmp x x) refl
      where
        go : (o : Ordering) → cmp x x ≡ o → cmp x x ≡ Equal
        go Less e = absurd (once_from_total total x x e e)
        go Equal e = e
        go Greater e =
            let f : cmp x x ≡ Less = total.antisymm x x ∙ ap ordering_reverse e in
            absurd (once_from_total total x x f f)

    pub not_there : (xs : List X) (x : X) (i : ℕ) → IsPartitionPoint (λ y. cmp y x ≡ Less) (λ y. cmp y x ≡ Greater) xs i → ¬ In x xs
    not_there xs x i p h =
        let at = In-place h in
        let same : cmp (get_or xs at.0 x) x ≡ Equal = rw (at.2 x) (same_itself x) in
        elim (sides at.0 i) [
          | inl l ↦ let e : cmp (get_or xs at.0 x) x ≡ Less = p.0 at.0 x (omega arith) l in let no : Less ≡ Equal = sym e ∙ same in cc
          | inr l ↦ let e : cmp (get_or xs at.0 x) x ≡ Greater = p.1 at.0 x l at.1 in let no : Greater ≡ Equal = sym e ∙ same in cc
        ]
      where
        sides : (k i : ℕ) → (k < i) ⊎ (i ≤ k)
        sides k i = grind arith

-- ---- paths

pub once_of : (xs : List Path) → IsStrictlySortedBy path_cmp xs → Once xs
once_of xs s = once_in path_cmp path_cmp_total xs s

pub place_found : (xs : List Path) (p : Path) (r : Result ℕ ℕ) → IsSearchInRange r (length xs) → IsBinarySearchResult (λ y. path_cmp y p) xs r → IfOk r (λ _. In p xs)
place_found xs p (Ok i) b h = subst (λ (z : Path). In z xs) (path_ties (get_or xs i p) p (h p)) (In-at xs i p b)
place_found xs p (Err i) b h = tt

pub place_missing : (xs : List Path) (p : Path) (r : Result ℕ ℕ) → IsStrictlySortedBy path_cmp xs → IsSearchInRange r (length xs) → IsBinarySearchResult (λ y. path_cmp y p) xs r → IfErr r (IsPlace xs p)
place_missing xs p (Ok i) s b h = tt
place_missing xs p (Err i) s b h =
    let at = h (rises path_cmp path_cmp_total path_ties xs p s) in
    record {
      within = b;
      absent = not_there path_cmp path_cmp_total path_ties xs p i at;
      ascends = insert_ascends path_cmp path_cmp_total xs i p s b (λ k d l. at.0 k d (omega arith) l) (λ k d l m. at.1 k d l m);
    }

pub none_ascends : IsStrictlySortedBy path_cmp []
unfolding IsStrictlySortedBy
none_ascends = tt

pub one_ascends : (w : Path) → IsStrictlySortedBy path_cmp (w ∷ [])
unfolding IsStrictlySortedBy
one_ascends w = (tt, tt)
