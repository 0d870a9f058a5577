-- Lists that are added to, step by step.
use Rattle.std.proofs.Common.{◌≡◌, ℕ, ◌+◌, ◌<◌, ◌≤◌, true, false, ◌⊎◌, inl, inr, List, [], ◌∷◌, ◌++◌, length, get_or, take, sym, ◌∙◌, ap, subst}
use Rattle.std.specs.Prelude.{◌↔◌}
use Rattle.std.proofs.lemmas.List.{take_all}
use Rattle.lfg_model.specs.Lists.{In}
use Rattle.lfg_model.proofs.ListLaws.{In-nil, In-append_left, In-push, In-push_cases, In-take_more}
use Rattle.lfg_context.specs.Seen.{Set}
use Rattle.lfg_context.specs.Sets.{Assignment, member}
use Rattle.lfg_context.specs.Telling.{InSome}
use Rattle.lfg_context.proofs.Telling.{true_not_false, In-take_one, In-take_last}
use Rattle.lfg_unify.specs.Holding.{Stated}
use Rattle.lfg_facts.specs.Adding.{Adds}

module _ {X : Type 0} where
  pub adds_none : (xs : List (X × Set)) (P : X → Assignment → Type 0) → ((a : Assignment) (x : X) → ¬ P x a) → Adds xs xs P
  adds_none xs P n = record { each = λ a x. ((λ s. inl s), (λ h. elim h [ inl s ↦ s | inr p ↦ absurd (n a x p) ])) }

  pub adds_as : {xs ys : List (X × Set)} (P Q : X → Assignment → Type 0) → Adds xs ys P → ((a : Assignment) (x : X) → P x a ↔ Q x a) → Adds xs ys Q
  adds_as P Q h same = record {
    each = λ a x. (
      (λ s. elim ((h.each a x).0 s) [ inl o ↦ inl o | inr p ↦ inr ((same a x).0 p) ]),
      (λ s. (h.each a x).1 (elim s [ inl o ↦ inl o | inr q ↦ inr ((same a x).1 q) ])),
    );
  }

  pub adds_both : {xs ys zs : List (X × Set)} (P Q R : X → Assignment → Type 0) → Adds xs ys P → Adds ys zs Q → ((a : Assignment) (x : X) → (P x a ⊎ Q x a) ↔ R x a) → Adds xs zs R
  adds_both P Q R f g same = record {
    each = λ a x. (
      (λ s. elim ((g.each a x).0 s) [
        | inl t ↦ elim ((f.each a x).0 t) [ inl o ↦ inl o | inr p ↦ inr ((same a x).0 (inl p)) ]
        | inr q ↦ inr ((same a x).0 (inr q))
      ]),
      (λ s. (g.each a x).1 (elim s [
        | inl o ↦ inl ((f.each a x).1 (inl o))
        | inr r ↦ elim ((same a x).1 r) [ inl p ↦ inl ((f.each a x).1 (inr p)) | inr q ↦ inr q ]
      ])),
    );
  }

  -- what is listed in what was pushed to
  pub stated_push : (xs : List (X × Set)) (x : X) (z : Set) (a : Assignment) (y : X) → Stated (xs ++ (x, z) ∷ []) a y ↔ (Stated xs a y ⊎ ((y ≡ x) × (member z a ≡ true)))
  stated_push xs x z a y = (
    (λ s. elim (In-push_cases xs (x, z) s.listed) [
      | inl i ↦ inl (record { set = s.set; listed = i; holds = s.holds })
      | inr e ↦ inr (ap (λ (v : X × Set). v.0) e, sym (ap (λ (v : X × Set). member v.1 a) e) ∙ s.holds)
    ]),
    (λ h. elim h [
      | inl s ↦ record { set = s.set; listed = In-append_left ((x, z) ∷ []) s.listed; holds = s.holds }
      | inr p ↦ (let P : X → Type 0 = λ v. Stated (xs ++ (x, z) ∷ []) a v in subst P (sym p.0) (record { set = z; listed = In-push xs (x, z); holds = p.1 }))
    ]),
  )

  pub adds_one : (xs ys : List (X × Set)) (x : X) (z : Set) → ys ≡ xs ++ (x, z) ∷ [] → Adds xs ys (λ y a. (y ≡ x) × (member z a ≡ true))
  adds_one xs ys x z e = record { each = λ a y. rw e (stated_push xs x z a y) }

  -- a set without members adds nothing
  pub adds_empty : (xs : List (X × Set)) (x : X) (z : Set) → ((a : Assignment) → member z a ≡ false) → Adds xs xs (λ y a. (y ≡ x) × (member z a ≡ true))
  adds_empty xs x z n = adds_none xs (λ y a. (y ≡ x) × (member z a ≡ true)) (λ a y p. true_not_false p.1 (n a))

  pub stated_nil : (a : Assignment) (x : X) → ¬ Stated {X = X} [] a x
  stated_nil a x s = In-nil s.listed

  pub added_is : {xs : List (X × Set)} (P : X → Assignment → Type 0) → Adds [] xs P → (a : Assignment) (x : X) → Stated xs a x ↔ P x a
  added_is P h a x = ((λ s. elim ((h.each a x).0 s) [ inl n ↦ absurd (stated_nil a x n) | inr p ↦ p ]), (λ p. (h.each a x).1 (inr p)))

-- one element more of a list
pub some_more : {Y : Type 0} (Q : Y → Assignment → Type 0) (us : List Y) (n : ℕ) (d : Y) (a : Assignment) → n < length us → d ≡ get_or us n d → (InSome (take n us) Q a ⊎ Q d a) ↔ InSome (take (n + 1) us) Q a
some_more {Y} Q us n d a l is = (
  (λ h. elim h [
    | inl s ↦ record { item = s.item; listed = In-take_one us n d l s.listed; holds = s.holds }
    | inr q ↦ record { item = d; listed = (let P : Y → Type 0 = λ v. In v (take (n + 1) us) in subst P (sym is) (In-take_last us n d l)); holds = q }
  ]),
  (λ s. elim (In-take_more us n d l s.listed) [
    | inl i ↦ inl (record { item = s.item; listed = i; holds = s.holds })
    | inr e ↦ inr (let P : Y → Type 0 = λ v. Q v a in subst P (e ∙ sym is) s.holds)
  ]),
)

module _ {X Y : Type 0} (Q : X → Y → Assignment → Type 0) (us : List Y) where
  pub listed_none : (xs : List (X × Set)) → Adds xs xs (λ x. InSome (take 0 us) (Q x))
  listed_none xs = adds_none xs (λ x. InSome (take 0 us) (Q x)) (λ a x s. In-nil s.listed)

  -- one step more of a loop
  pub listed_more : {xs ys zs : List (X × Set)} (n : ℕ) (d : Y) → n < length us → d ≡ get_or us n d → Adds xs ys (λ x. InSome (take n us) (Q x)) → Adds ys zs (λ x. Q x d)
      → Adds xs zs (λ x. InSome (take (n + 1) us) (Q x))
  listed_more n d l is f g = adds_both (λ x. InSome (take n us) (Q x)) (λ x. Q x d) (λ x. InSome (take (n + 1) us) (Q x)) f g (λ a x. some_more (Q x) us n d a l is)

  pub listed_all : {xs ys : List (X × Set)} (n : ℕ) → length us ≤ n → Adds xs ys (λ x. InSome (take n us) (Q x)) → Adds xs ys (λ x. InSome us (Q x))
  listed_all {xs} {ys} n l f = let P : List Y → Type 0 = λ vs. Adds xs ys (λ x. InSome vs (Q x)) in subst P (take_all n us l) f

-- the same where the thing and the set are copies
pub adds_same : {X : Type 0} (xs ys : List (X × Set)) (x y : X) (z u : Set) → ys ≡ xs ++ (x, z) ∷ [] → x ≡ y → z ≡ u → Adds xs ys (λ v a. (v ≡ y) × (member u a ≡ true))
adds_same {X} xs ys x y z u e same is = adds_as (λ v a. (v ≡ x) × (member z a ≡ true)) (λ v a. (v ≡ y) × (member u a ≡ true)) (adds_one xs ys x z e) (λ a v. (
  (λ p. (p.0 ∙ same, sym (ap (λ w. member w a) is) ∙ p.1)),
  (λ p. (p.0 ∙ sym same, ap (λ w. member w a) is ∙ p.1)),
))
