-- Elements of lists by their places, and what is listed at the elements of two lists that have the
-- same elements.
use Rattle.std.proofs.Common.{◌≡◌, ◌↔◌, ℕ, zero, suc, ◌+◌, ◌<◌, Option, Some, None, List, [], ◌∷◌, ◌++◌, length, slice_get, refl, sym, ap, subst, ◌∙◌, arith, inl, inr, ◌⊎◌}
use Rattle.std.specs.List.{flat_map}
use Rattle.std.specs.List.Sorted.{IsPermutation}
use Rattle.std.proofs.lemmas.Option.{same_Some}
use Rattle.std.proofs.lemmas.List.Sorted.{IsPermutation-refl, IsPermutation-sym, IsPermutation-trans, IsPermutation-append, IsPermutation-middle, IsPermutation-cons}
use Rattle.lfg_model.specs.Lists.{In, here, later, Once, none, more}
use Rattle.lfg_model.proofs.ListLaws.{In-nil, In-cons_cases, In-append_cases, In-append_left, In-append_right, split_at}

pub In_get : {X : Type 0} {x : X} {xs : List X} → In x xs → (k : ℕ) × (slice_get xs k ≡ Some x)
In_get here = (0, refl)
In_get (later h) = let r = In_get h in (suc r.0, r.1)

pub get_In : {X : Type 0} (xs : List X) (k : ℕ) (x : X) → slice_get xs k ≡ Some x → In x xs
get_In [] k x h = cc
get_In (y ∷ xs) zero x h = rw (same_Some y x h) here
get_In (y ∷ xs) (suc k) x h = later (get_In xs k x h)

-- a place below the length has an element
pub get_below : {X : Type 0} (xs : List X) (k : ℕ) → k < length xs → (x : X) × (slice_get xs k ≡ Some x)
get_below [] k h = let no : ⊥ = omega arith in absurd no
get_below (x ∷ xs) zero h = (x, refl)
get_below (x ∷ xs) (suc k) h = get_below xs k (omega arith)

-- a list with an element is not empty
pub some_length : {X : Type 0} {x : X} (xs : List X) → In x xs → 0 < length xs
some_length [] i = In-nil i
some_length (x ∷ xs) i = omega arith

append_assoc : {X : Type 0} (us vs ws : List X) → (us ++ vs) ++ ws ≡ us ++ (vs ++ ws)
append_assoc [] vs ws = refl
append_assoc (u ∷ us) vs ws = ap (λ zs. u ∷ zs) (append_assoc us vs ws)

pub flat_append : {X Y : Type 0} (f : X → List Y) (xs ys : List X) → flat_map f (xs ++ ys) ≡ flat_map f xs ++ flat_map f ys
flat_append f [] ys = refl
flat_append f (x ∷ xs) ys = ap (λ zs. f x ++ zs) (flat_append f xs ys) ∙ sym (append_assoc (f x) (flat_map f xs) (flat_map f ys))

-- without one element the rest stands once, and the element is not there
cut_out : {X : Type 0} (front : List X) (x : X) (back : List X) → Once (front ++ x ∷ back) → Once (front ++ back) × (In x (front ++ back) → ⊥)
cut_out [] x back (more n o) = (o, n)
cut_out {X} (y ∷ front) x back (more n o) =
    let r = cut_out front x back o in (
      more (λ i. n (elim (In-append_cases front back i) [ inl a ↦ In-append_left (x ∷ back) a | inr b ↦ In-append_right front (later b) ])) r.0,
      λ i. elim (In-cons_cases i) [ inl e ↦ n (let P : X → Type 0 = λ z. In z (front ++ x ∷ back) in subst P e (In-append_right front here)) | inr j ↦ r.1 j ],
    )

module _ {X Y : Type 0} (f : X → List Y) where
  -- what is listed at the elements comes in another order where they do
  pub flat_middle : (front : List X) (x : X) (back : List X) → IsPermutation (flat_map f (x ∷ (front ++ back))) (flat_map f (front ++ x ∷ back))
  flat_middle front x back =
      let P : List Y → Type 0 = λ zs. IsPermutation (f x ++ zs) (flat_map f (front ++ x ∷ back)) in
      let Q : List Y → Type 0 = λ zs. IsPermutation (f x ++ (flat_map f front ++ flat_map f back)) zs in
      subst P (sym (flat_append f front back)) (subst Q (sym (flat_append f front (x ∷ back))) (swapped (f x) (flat_map f front) (flat_map f back)))
    where
      swapped : (us vs ws : List Y) → IsPermutation (us ++ (vs ++ ws)) (vs ++ (us ++ ws))
      swapped [] vs ws = IsPermutation-refl (vs ++ ws)
      swapped (u ∷ us) vs ws = IsPermutation-trans _ _ _ (IsPermutation-cons u _ _ (swapped us vs ws)) (IsPermutation-sym _ _ (IsPermutation-middle vs u (us ++ ws)))

  -- two lists without repeats that have the same elements list the same, each as often
  pub same_lists : (xs ys : List X) → Once xs → Once ys → ((z : X) → In z xs → In z ys) → ((z : X) → In z ys → In z xs) → IsPermutation (flat_map f xs) (flat_map f ys)
  same_lists [] [] o q a b = IsPermutation-refl []
  same_lists [] (y ∷ ys) o q a b = In-nil (b y here)
  same_lists (x ∷ xs) ys (more n o) q a b =
      let s = split_at (a x here) in
      let P : List X → Type 0 = λ zs. Once zs in
      let c = cut_out s.0 x s.1 (subst P s.2 q) in
      let there : (z : X) → In z (s.0 ++ x ∷ s.1) → In z (x ∷ xs) = λ z i. b z (let Q : List X → Type 0 = λ zs. In z zs in subst Q (sym s.2) i) in
      let back : (z : X) → In z (s.0 ++ s.1) → In z xs = λ z i. elim (In-cons_cases (there z (elim (In-append_cases s.0 s.1 i) [ inl l ↦ In-append_left (x ∷ s.1) l | inr r ↦ In-append_right s.0 (later r) ]))) [
        | inl e ↦ absurd (c.1 (let Q : X → Type 0 = λ w. In w (s.0 ++ s.1) in subst Q e i))
        | inr j ↦ j
      ] in
      let forth : (z : X) → In z xs → In z (s.0 ++ s.1) = λ z i. elim (In-append_cases s.0 (x ∷ s.1) (let Q : List X → Type 0 = λ zs. In z zs in subst Q s.2 (a z (later i)))) [
        | inl l ↦ In-append_left s.1 l
        | inr r ↦ elim (In-cons_cases r) [ inl e ↦ absurd (n (let Q : X → Type 0 = λ w. In w xs in subst Q e i)) | inr j ↦ In-append_right s.0 j ]
      ] in
      let rest = same_lists xs (s.0 ++ s.1) o c.0 forth back in
      let moved = IsPermutation-trans _ _ _ (IsPermutation-append (f x) (f x) _ _ (IsPermutation-refl (f x)) rest) (flat_middle s.0 x s.1) in
      let R : List X → Type 0 = λ zs. IsPermutation (flat_map f (x ∷ xs)) (flat_map f zs) in
      subst R (sym s.2) moved
