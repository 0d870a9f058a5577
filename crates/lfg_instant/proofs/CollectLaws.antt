-- Lists that collect elements.
use Rattle.std.proofs.Common.{◌≡◌, ℕ, zero, suc, ◌+◌, ◌<◌, ◌≤◌, ◌⊎◌, inl, inr, List, [], ◌∷◌, ◌++◌, length, get_or, take, slice_get, Some, refl, sym, ap, subst, ◌∙◌, arith}
use Rattle.std.specs.Prelude.{◌↔◌}
use Rattle.std.proofs.lemmas.Option.{same_Some, slice_get-get_or, slice_get_within}
use Rattle.lfg_model.specs.Lists.{In}
use Rattle.lfg_model.proofs.ListLaws.{In-nil, In-append_left, In-push, In-push_cases, In-take_more}
use Rattle.std.proofs.lemmas.List.{take_more}
use Rattle.lfg_packed.proofs.Listing.{In_get, get_In}
use Rattle.lfg_instant.specs.Collects.{Collects}

pub one_more : (Q : ℕ → Type 0) (n : ℕ) → ((m : ℕ) × (m < n + 1) × Q m) ↔ (((m : ℕ) × (m < n) × Q m) ⊎ Q n)
one_more Q n = (
  (λ w. elim (cases w.0 w.1) [ inl l ↦ inl (w.0, l, w.2) | inr e ↦ inr (subst Q e w.2) ]),
  (λ h. elim h [ inl w ↦ (w.0, omega (arith, w.1), w.2) | inr q ↦ (n, omega arith, q) ]),
)
  where
    cases : (m : ℕ) → m < n + 1 → (m < n) ⊎ (m ≡ n)
    cases m l = grind arith

module _ {X : Type 0} where
  pub collects_none : (xs : List X) (P : X → Type 0) → ((x : X) → ¬ P x) → Collects xs xs P
  collects_none xs P n = record { exact = λ x. ((λ h. inl h), (λ h. elim h [ inl a ↦ a | inr p ↦ absurd (n x p) ])) }

  pub collects_trans : (xs ys zs : List X) (P Q R : X → Type 0) → Collects xs ys P → Collects ys zs Q → ((x : X) → R x ↔ (P x ⊎ Q x)) → Collects xs zs R
  collects_trans xs ys zs P Q R f g same = record {
    exact = λ x. (
      (λ h. elim ((g.exact x).0 h) [
        | inl b ↦ elim ((f.exact x).0 b) [ inl a ↦ inl a | inr p ↦ inr ((same x).1 (inl p)) ]
        | inr q ↦ inr ((same x).1 (inr q))
      ]),
      (λ h. (g.exact x).1 (elim h [
        | inl a ↦ inl ((f.exact x).1 (inl a))
        | inr r ↦ elim ((same x).0 r) [ inl p ↦ inl ((f.exact x).1 (inr p)) | inr q ↦ inr q ]
      ])),
    );
  }

  pub collects_along : (xs ys : List X) (P Q : X → Type 0) → ((x : X) → P x ↔ Q x) → Collects xs ys P → Collects xs ys Q
  collects_along xs ys P Q same f = record {
    exact = λ x. (
      (λ h. elim ((f.exact x).0 h) [ inl b ↦ inl b | inr p ↦ inr ((same x).0 p) ]),
      (λ h. (f.exact x).1 (elim h [ inl b ↦ inl b | inr q ↦ inr ((same x).1 q) ])),
    );
  }

  pub collects_one : (xs ys : List X) (new : X) → ys ≡ xs ++ new ∷ [] → Collects xs ys (λ x. x ≡ new)
  collects_one xs ys new e = record {
    exact = λ x. (
      (λ h. In-push_cases xs new (rw e at h)),
      (λ h. rw e (elim h [
        | inl was ↦ In-append_left (new ∷ []) was
        | inr same ↦ (let P : X → Type 0 = λ y. In y (xs ++ new ∷ []) in subst P (sym same) (In-push xs new))
      ])),
    );
  }

  -- one step more of a loop over places
  pub counted_more : (xs ys zs : List X) (Q : ℕ → X → Type 0) (R : X → Type 0) (n : ℕ) → Collects xs ys (λ x. (m : ℕ) × (m < n) × Q m x) → Collects ys zs R → ((x : X) → Q n x ↔ R x)
      → Collects xs zs (λ x. (m : ℕ) × (m < n + 1) × Q m x)
  counted_more xs ys zs Q R n f g same = collects_trans xs ys zs (λ x. (m : ℕ) × (m < n) × Q m x) R (λ x. (m : ℕ) × (m < n + 1) × Q m x) f g
      (λ x. (let o = one_more (λ m. Q m x) n in (
        (λ h. elim (o.0 h) [ inl p ↦ inl p | inr q ↦ inr ((same x).0 q) ]),
        (λ h. o.1 (elim h [ inl p ↦ inl p | inr r ↦ inr ((same x).1 r) ])),
      )))

  pub counted_same : (xs ys : List X) (Q : ℕ → X → Type 0) (n : ℕ) → Collects xs ys (λ x. (m : ℕ) × (m < n) × Q m x) → ((x : X) → ¬ Q n x) → Collects xs ys (λ x. (m : ℕ) × (m < n + 1) × Q m x)
  counted_same xs ys Q n f never = collects_along xs ys (λ x. (m : ℕ) × (m < n) × Q m x) (λ x. (m : ℕ) × (m < n + 1) × Q m x)
      (λ x. (let o = one_more (λ m. Q m x) n in (
        (λ h. o.1 (inl h)),
        (λ h. elim (o.0 h) [ inl p ↦ p | inr q ↦ absurd (never x q) ]),
      ))) f

  -- before the first step, and after the last
  pub counted_none : (xs : List X) (Q : ℕ → X → Type 0) → Collects xs xs (λ x. (m : ℕ) × (m < 0) × Q m x)
  counted_none xs Q = collects_none xs (λ x. (m : ℕ) × (m < 0) × Q m x) (λ x w. (let l = w.1 in omega arith))

  pub collected : (xs : List X) (P : X → Type 0) → Collects [] xs P → (x : X) → In x xs ↔ P x
  collected xs P f x = ((λ h. elim ((f.exact x).0 h) [ inl a ↦ In-nil a | inr p ↦ p ]), (λ p. (f.exact x).1 (inr p)))

-- what stands at a place
pub place_is : {X : Type 0} (xs : List X) (k : ℕ) (x : X) → k < length xs → x ≡ get_or xs k x → slice_get xs k ≡ Some x
place_is xs k x l e = slice_get-get_or xs k x l ∙ ap Some (sym e)

pub one_more_in : {X : Type 0} (Q : X → Type 0) (xs : List X) (i : ℕ) (d : X) → i < length xs → ((x : X) × In x (take (i + 1) xs) × Q x) ↔ (((x : X) × In x (take i xs) × Q x) ⊎ Q (get_or xs i d))
one_more_in Q xs i d l = (
  (λ w. elim (In-take_more xs i d l w.1) [ inl a ↦ inl (w.0, a, w.2) | inr e ↦ inr (subst Q e w.2) ]),
  (λ h. elim h [
    | inl w ↦ (w.0, rw (take_more xs i d l) (In-append_left (get_or xs i d ∷ []) w.1), w.2)
    | inr q ↦ (get_or xs i d, rw (take_more xs i d l) (In-push (take i xs) (get_or xs i d)), q)
  ]),
)

-- one step more of a loop over the elements of a list
pub listed_more : {X Y : Type 0} (xs ys zs : List X) (Q : Y → X → Type 0) (us : List Y) (n : ℕ) (d : Y) → n < length us → d ≡ get_or us n d
    → Collects xs ys (λ x. (y : Y) × In y (take n us) × Q y x) → Collects ys zs (Q d) → Collects xs zs (λ x. (y : Y) × In y (take (n + 1) us) × Q y x)
listed_more {X} {Y} xs ys zs Q us n d l e f g = collects_trans xs ys zs (λ x. (y : Y) × In y (take n us) × Q y x) (Q d) (λ x. (y : Y) × In y (take (n + 1) us) × Q y x) f g
    (λ x. (let o = one_more_in (λ y. Q y x) us n d l in (
      (λ h. elim (o.0 h) [ inl p ↦ inl p | inr q ↦ inr (let P : Y → Type 0 = λ y. Q y x in subst P (sym e) q) ]),
      (λ h. o.1 (elim h [ inl p ↦ inl p | inr r ↦ inr (let P : Y → Type 0 = λ y. Q y x in subst P e r) ])),
    )))

pub listed_none : {X Y : Type 0} (xs : List X) (Q : Y → X → Type 0) (us : List Y) → Collects xs xs (λ x. (y : Y) × In y (take 0 us) × Q y x)
listed_none {X} {Y} xs Q us = collects_none xs (λ x. (y : Y) × In y (take 0 us) × Q y x) (λ x w. In-nil w.1)

-- all of a list
pub take_whole : {X : Type 0} (xs : List X) (n : ℕ) → length xs ≤ n → take n xs ≡ xs
take_whole [] zero l = refl
take_whole [] (suc n) l = refl
take_whole (x ∷ xs) zero l = absurd (omega arith)
take_whole (x ∷ xs) (suc n) l = ap (λ ys. x ∷ ys) (take_whole xs n (omega arith))

pub listed_all : {X Y : Type 0} (xs ys : List X) (Q : Y → X → Type 0) (us : List Y) (n : ℕ) → length us ≤ n
    → Collects xs ys (λ x. (y : Y) × In y (take n us) × Q y x) → Collects xs ys (λ x. (y : Y) × In y us × Q y x)
listed_all {X} {Y} xs ys Q us n l f = let P : List Y → Type 0 = λ vs. Collects xs ys (λ x. (y : Y) × In y vs × Q y x) in subst P (take_whole us n l) f

-- what is made of the elements of a list, one place after the other
module _ {X Y : Type 0} (f : X → Y) (xs : List X) where
  abbrev pub MadeBy : ℕ → Y → Type 0
  MadeBy m y = (x : X) × (slice_get xs m ≡ Some x) × (y ≡ f x)

  pub made_one : (m : ℕ) (x : X) → slice_get xs m ≡ Some x → (y : Y) → MadeBy m y ↔ (y ≡ f x)
  made_one m x there y = (
    (λ h. h.2 ∙ ap f (same_Some h.0 x (sym h.1 ∙ there))),
    (λ e. (x, there, e)),
  )

  pub made_all : (n : ℕ) → length xs ≤ n → (y : Y) → ((m : ℕ) × (m < n) × MadeBy m y) ↔ ((x : X) × In x xs × (y ≡ f x))
  made_all n l y = (
    (λ h. (h.2.0, get_In xs h.0 h.2.0 h.2.1, h.2.2)),
    (λ h. (let at = In_get h.1 in (at.0, (let w = slice_get_within xs at.0 h.0 at.1 in omega (arith, w, l)), (h.0, at.1, h.2)))),
  )
