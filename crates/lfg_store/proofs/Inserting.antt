-- Facts in order: one more, or one less, and lists that ascend.
use Rattle.std.proofs.Common.{◌≡◌, ◌≢◌, Bool, true, false, cond, List, [], ◌∷◌, ◌++◌, refl, sym, ◌∙◌, ap, subst, inl, inr, ◌⊎◌, Ordering, Less, Equal, Greater}
use Rattle.std.specs.Prelude.{not, filter}
use Rattle.std.specs.Ordering.{is_eq, ordering_reverse, match_ordering}
use Rattle.std.specs.List.{AllByRecursion}
use Rattle.std.specs.List.Sorted.{IsStrictlySortedBy}
use Rattle.lfg_terms.specs.Order.{fact_cmp}
use Rattle.lfg_terms.specs.OrderLaws.{fact_cmp_total}
use Rattle.lfg_terms.specs.declared.node.Fact.{Fact}
use Rattle.lfg_terms.proofs.Ties.{fact_cmp_same}
use Rattle.lfg_model.specs.Lists.{In, here, later}
use Rattle.lfg_model.proofs.Ascending.{all_in}
use Rattle.lfg_model.proofs.ListLaws.{In-nil, In-cons_cases, In-append_cases, In-append_left, In-append_right}
use Rattle.lfg_store.specs.Facts.{same_fact, with_fact, without_fact}

-- the order the other way round
pub greater_from_less : (f g : Fact) → fact_cmp g f ≡ Less → fact_cmp f g ≡ Greater
greater_from_less f g h = fact_cmp_total.antisymm f g ∙ ap ordering_reverse h

pub less_from_greater : (f g : Fact) → fact_cmp g f ≡ Greater → fact_cmp f g ≡ Less
less_from_greater f g h = fact_cmp_total.antisymm f g ∙ ap ordering_reverse h

pub equal_self : (f : Fact) → fact_cmp f f ≡ Equal
equal_self f = (fact_cmp_same f f).1 refl

pub same_self : (f : Fact) → same_fact f f ≡ true
same_self f = ap is_eq (equal_self f)

pub same_at : (f g : Fact) (o : Ordering) → fact_cmp f g ≡ o → same_fact f g ≡ is_eq o
same_at f g o h = ap is_eq h

-- other facts are told apart
pub apart : (f g : Fact) → f ≢ g → same_fact f g ≡ false
apart f g other = by_order (fact_cmp f g) refl
  where
    by_order : (o : Ordering) → fact_cmp f g ≡ o → is_eq o ≡ false
    by_order Less h = refl
    by_order Equal h = absurd (other ((fact_cmp_same f g).0 h))
    by_order Greater h = refl

-- each fact of the list is less than this one, or greater
abbrev pub AllBefore : Fact → List Fact → Type 0
AllBefore f gs = (g : Fact) → In g gs → fact_cmp f g ≡ Greater

abbrev pub AllBehind : Fact → List Fact → Type 0
AllBehind f gs = (g : Fact) → In g gs → fact_cmp f g ≡ Less

-- a fact's place is behind the lesser ones
pub with_past : (f : Fact) (gs hs : List Fact) → AllBefore f gs → with_fact f (gs ++ hs) ≡ gs ++ with_fact f hs
with_past f [] hs past = refl
with_past f (g ∷ gs) hs past =
    ap (λ o. match_ordering o (f ∷ g ∷ (gs ++ hs)) (g ∷ (gs ++ hs)) (g ∷ with_fact f (gs ++ hs))) (past g here)
    ∙ ap (λ v. g ∷ v) (with_past f gs hs (λ h i. past h (later i)))

pub with_first : (f : Fact) (hs : List Fact) → AllBehind f hs → with_fact f hs ≡ f ∷ hs
with_first f [] first = refl
with_first f (h ∷ hs) first = ap (λ o. match_ordering o (f ∷ h ∷ hs) (h ∷ hs) (h ∷ with_fact f hs)) (first h here)

pub with_same : (f : Fact) (hs : List Fact) → with_fact f (f ∷ hs) ≡ f ∷ hs
with_same f hs = ap (λ o. match_ordering o (f ∷ f ∷ hs) (f ∷ hs) (f ∷ with_fact f hs)) (equal_self f)

-- without a fact that is not there
pub without_absent : (f : Fact) (gs : List Fact) → ((g : Fact) → In g gs → same_fact f g ≡ false) → without_fact f gs ≡ gs
without_absent f [] absent = refl
without_absent f (g ∷ gs) absent =
    ap (λ b. cond (not b) (g ∷ without_fact f gs) (without_fact f gs)) (absent g here)
    ∙ ap (λ v. g ∷ v) (without_absent f gs (λ h i. absent h (later i)))

pub without_first : (f : Fact) (gs : List Fact) → without_fact f (f ∷ gs) ≡ without_fact f gs
without_first f gs = ap (λ b. cond (not b) (f ∷ without_fact f gs) (without_fact f gs)) (same_self f)

pub absent_before : (f : Fact) (gs : List Fact) → AllBefore f gs → (g : Fact) → In g gs → same_fact f g ≡ false
absent_before f gs past g i = same_at f g Greater (past g i)

pub absent_behind : (f : Fact) (gs : List Fact) → AllBehind f gs → (g : Fact) → In g gs → same_fact f g ≡ false
absent_behind f gs first g i = same_at f g Less (first g i)

-- what every fact of a list has, by its recursion
pub all_from_In : {X : Type 0} (P : X → Type 0) (xs : List X) → ((x : X) → In x xs → P x) → AllByRecursion P xs
all_from_In P [] h = tt
all_from_In P (x ∷ xs) h = (h x here, all_from_In P xs (λ y i. h y (later i)))

-- lists that ascend, round an element
module _ {X : Type 0} (c : X → X → Ordering) where
  pub around_before : (xs ys : List X) (x : X) → IsStrictlySortedBy c (xs ++ x ∷ ys) → (y : X) → In y xs → c y x ≡ Less
  unfolding IsStrictlySortedBy
  around_before (z ∷ xs) ys x s y here = all_in (λ w. c z w ≡ Less) s.0 (In-append_right xs here)
  around_before (z ∷ xs) ys x s y (later i) = around_before xs ys x s.1 y i
  around_before [] ys x s y i = In-nil i

  pub around_behind : (xs ys : List X) (x : X) → IsStrictlySortedBy c (xs ++ x ∷ ys) → (y : X) → In y ys → c x y ≡ Less
  unfolding IsStrictlySortedBy
  around_behind [] ys x s y i = all_in (λ w. c x w ≡ Less) s.0 i
  around_behind (z ∷ xs) ys x s y i = around_behind xs ys x s.1 y i

  pub ascends_without : (xs ys : List X) (x : X) → IsStrictlySortedBy c (xs ++ x ∷ ys) → IsStrictlySortedBy c (xs ++ ys)
  unfolding IsStrictlySortedBy
  ascends_without [] ys x s = s.1
  ascends_without (z ∷ xs) ys x s =
      (all_from_In (λ w. c z w ≡ Less) (xs ++ ys) (λ y i. all_in (λ w. c z w ≡ Less) s.0 (wider y (In-append_cases xs ys i))), ascends_without xs ys x s.1)
    where
      wider : (y : X) → In y xs ⊎ In y ys → In y (xs ++ x ∷ ys)
      wider y (inl i) = In-append_left (x ∷ ys) i
      wider y (inr i) = In-append_right xs (later i)

  pub ascends_with : (xs ys : List X) (x : X) → IsStrictlySortedBy c (xs ++ ys) → ((y : X) → In y xs → c y x ≡ Less) → ((y : X) → In y ys → c x y ≡ Less)
      → IsStrictlySortedBy c (xs ++ x ∷ ys)
  unfolding IsStrictlySortedBy
  ascends_with [] ys x s before behind = (all_from_In (λ w. c x w ≡ Less) ys behind, s)
  ascends_with (z ∷ xs) ys x s before behind =
      (all_from_In (λ w. c z w ≡ Less) (xs ++ x ∷ ys) (λ y i. by_case y (In-append_cases xs (x ∷ ys) i)), ascends_with xs ys x s.1 (λ y i. before y (later i)) behind)
    where
      from : (y : X) → In y (xs ++ ys) → c z y ≡ Less
      from y i = all_in (λ w. c z w ≡ Less) s.0 i

      by_last : (y : X) → (y ≡ x) ⊎ In y ys → c z y ≡ Less
      by_last y (inl e) = let P : X → Type 0 = λ w. c z w ≡ Less in subst P (sym e) (before z here)
      by_last y (inr i) = from y (In-append_right xs i)

      by_case : (y : X) → In y xs ⊎ In y (x ∷ ys) → c z y ≡ Less
      by_case y (inl i) = from y (In-append_left ys i)
      by_case y (inr i) = by_last y (In-cons_cases i)

  -- a chosen part of a list that ascends
  pub ascends_nil : IsStrictlySortedBy c []
  unfolding IsStrictlySortedBy
  ascends_nil = tt
