-- Stores that are made of entries in any order.
use Rattle.std.proofs.Common.{◌≡◌, ◌≢◌, ℕ, ◌+◌, ◌<◌, ◌≤◌, Bool, true, false, cond, List, [], ◌∷◌, ◌++◌, length, get_or, take, refl, sym, ◌∙◌, ap, subst, inl, inr, ◌⊎◌, Ordering, Less, Equal, Greater, arith}
use Rattle.std.specs.Prelude.{◌↔◌}
use Rattle.std.specs.Ordering.{match_ordering}
use Rattle.std.specs.List.{AllByRecursion}
use Rattle.std.specs.List.Sorted.{IsStrictlySortedBy, IsPermutation}
use Rattle.std.proofs.lemmas.List.{take_more, take_all}
use Rattle.std.proofs.lemmas.List.Sorted.{Contains-permutation, IsPermutation-sym}
use Rattle.lfg_terms.specs.Order.{fact_cmp}
use Rattle.lfg_terms.specs.declared.node.Fact.{Fact}
use Rattle.lfg_terms.proofs.Ties.{fact_cmp_same}
use Rattle.lfg_model.specs.Lists.{In, here, later, Lists}
use Rattle.lfg_model.proofs.ListLaws.{In-nil, In-map, In-cons_cases, In-append_cases, In-append_left, In-append_right, Contains_from_In, In_from_Contains}
use Rattle.lfg_model.proofs.Ascending.{all_in}
use Rattle.lfg_context.specs.Seen.{Set, Known}
use Rattle.lfg_context.specs.Sets.{Assignment, member, AreMade}
use Rattle.lfg_store.specs.Facts.{Entries, facts_at, facts_of, with_fact, IsStore}
use Rattle.lfg_store.specs.Edits.{HasFactsOf, IsEdited}
use Rattle.lfg_store.specs.Packing.{AreMadeBy}
use Rattle.lfg_store.specs.declared.edit.Edit.TheVariants.{Add}
use Rattle.lfg_store.proofs.Held.{held-append, held_from, In-held}
use Rattle.lfg_store.proofs.Inserting.{all_from_In}

pub empty_store : IsStore []
unfolding IsStrictlySortedBy
empty_store = record { ascends = tt; stands = λ e i. In-nil i; room = omega arith }

-- the facts at an assignment ascend, where the entries do
pub facts_ascend : (es : Entries) (a : Assignment) → IsStrictlySortedBy fact_cmp (facts_of es) → IsStrictlySortedBy fact_cmp (facts_at es a)
unfolding IsStrictlySortedBy
facts_ascend [] a s = tt
facts_ascend (e ∷ es) a s = by_member (member e.1 a) (facts_ascend es a s.1)
  where
    below : AllByRecursion (λ g. fact_cmp e.0 g ≡ Less) (facts_at es a)
    below = all_from_In (λ g. fact_cmp e.0 g ≡ Less) (facts_at es a) (λ g i.
        let t = held_from es a g i in
        let P : Fact → Type 0 = λ v. fact_cmp e.0 v ≡ Less in
        subst P t.2 (all_in P s.0 (In-map (λ (d : Fact × Set). d.0) t.1)))

    by_member : (b : Bool) → IsStrictlySortedBy fact_cmp (facts_at es a) → IsStrictlySortedBy fact_cmp (cond b (e.0 ∷ facts_at es a) (facts_at es a))
    by_member true ih = (below, ih)
    by_member false ih = ih

abbrev WithGoal : Fact → Fact → List Fact → List Fact → Type 0
WithGoal f g old new = In g new ↔ (In g old ⊎ (g ≡ f))

-- what stands among facts with one more
pub In-with : (f : Fact) (gs : List Fact) (g : Fact) → In g (with_fact f gs) ↔ (In g gs ⊎ (g ≡ f))
In-with f [] g = ((λ i. elim (In-cons_cases i) [ inl e ↦ inr e | inr j ↦ In-nil j ]), λ s. elim s [ inl i ↦ In-nil i | inr e ↦ (let P : Fact → Type 0 = λ v. In v (f ∷ []) in subst P (sym e) here) ])
In-with f (h ∷ gs) g = by_order (fact_cmp f h) refl (In-with f gs g)
  where
    front : WithGoal f g (h ∷ gs) (f ∷ h ∷ gs)
    front = (
      (λ i. elim (In-cons_cases i) [ inl e ↦ inr e | inr j ↦ inl j ]),
      λ s. elim s [ inl i ↦ later i | inr e ↦ (let P : Fact → Type 0 = λ v. In v (f ∷ h ∷ gs) in subst P (sym e) here) ],
    )

    same : f ≡ h → WithGoal f g (h ∷ gs) (h ∷ gs)
    same e = (
      (λ i. inl i),
      λ s. elim s [ inl i ↦ i | inr d ↦ (let P : Fact → Type 0 = λ v. In v (h ∷ gs) in subst P (sym (d ∙ e)) here) ],
    )

    behind : In g (with_fact f gs) ↔ (In g gs ⊎ (g ≡ f)) → WithGoal f g (h ∷ gs) (h ∷ with_fact f gs)
    behind ih = (
      (λ i. elim (In-cons_cases i) [
        | inl e ↦ (let P : Fact → Type 0 = λ v. In v (h ∷ gs) in inl (subst P (sym e) here))
        | inr j ↦ elim (ih.0 j) [ inl k ↦ inl (later k) | inr e ↦ inr e ]
      ]),
      λ s. elim s [
        | inl i ↦ elim (In-cons_cases i) [
          | inl e ↦ (let P : Fact → Type 0 = λ v. In v (h ∷ with_fact f gs) in subst P (sym e) here)
          | inr j ↦ later (ih.1 (inl j))
        ]
        | inr e ↦ later (ih.1 (inr e))
      ],
    )

    by_order : (o : Ordering) → fact_cmp f h ≡ o → In g (with_fact f gs) ↔ (In g gs ⊎ (g ≡ f)) → WithGoal f g (h ∷ gs) (match_ordering o (f ∷ h ∷ gs) (h ∷ gs) (h ∷ with_fact f gs))
    by_order Less e ih = front
    by_order Equal e ih = same ((fact_cmp_same f h).0 e)
    by_order Greater e ih = behind ih

pub none_yet : HasFactsOf [] []
none_yet = record { each = λ a g. ((λ i. i), λ i. i) }

one_more : (es : Entries) (e : Fact × Set) (now new : Entries) → HasFactsOf es now → IsEdited Add now e.0 e.1 new → HasFactsOf (es ++ e ∷ []) new
one_more es e now new h edit = record { each = λ a g. by_member a g (member e.1 a) (edit.facts a) (held-append es (e ∷ []) a) }
  where
    by_member : (a : Assignment) (g : Fact) (b : Bool) → facts_at new a ≡ cond b (with_fact e.0 (facts_at now a)) (facts_at now a)
        → facts_at (es ++ e ∷ []) a ≡ facts_at es a ++ cond b (e.0 ∷ []) [] → In g (facts_at new a) ↔ In g (facts_at (es ++ e ∷ []) a)
    by_member a g true p q =
        let with = In-with e.0 (facts_at now a) g in
        let old = h.each a g in (
          (λ i. rw q (elim (with.0 (rw p at i)) [
            | inl j ↦ In-append_left (e.0 ∷ []) (old.0 j)
            | inr d ↦ (let P : Fact → Type 0 = λ v. In v (facts_at es a ++ e.0 ∷ []) in subst P (sym d) (In-append_right (facts_at es a) here))
          ])),
          λ i. rw p (with.1 (elim (In-append_cases (facts_at es a) (e.0 ∷ []) (rw q at i)) [
            | inl j ↦ inl (old.1 j)
            | inr j ↦ elim (In-cons_cases j) [ inl d ↦ inr d | inr k ↦ In-nil k ]
          ])),
        )
    by_member a g false p q =
        let old = h.each a g in (
          (λ i. rw q (In-append_left [] (old.0 (rw p at i)))),
          λ i. rw p (old.1 (elim (In-append_cases (facts_at es a) [] (rw q at i)) [ inl j ↦ j | inr j ↦ In-nil j ])),
        )

pub more_facts : (es : Entries) (i : ℕ) (e : Fact × Set) (now new : Entries) → i < length es → e ≡ get_or es i e → HasFactsOf (take i es) now → IsEdited Add now e.0 e.1 new
    → HasFactsOf (take (i + 1) es) new
more_facts es i e now new l at h edit =
    subst (λ (v : Entries). HasFactsOf v new) (sym (take_more es i e l ∙ ap (λ v. take i es ++ v ∷ []) (sym at))) (one_more (take i es) e now new h edit)

pub all_facts : (es : Entries) (i : ℕ) (new : Entries) → length es ≤ i → HasFactsOf (take i es) new → HasFactsOf es new
all_facts es i new l h = subst (λ (v : Entries). HasFactsOf v new) (take_all i es l) h

-- entries in another order
pub from_permuted : {X : Type 0} (xs ys : List X) (x : X) → IsPermutation xs ys → In x ys → In x xs
from_permuted xs ys x p i = In_from_Contains xs x (Contains-permutation ys xs x (IsPermutation-sym xs ys p) (Contains_from_In i))

permuted_facts : (es fs : Entries) (a : Assignment) (g : Fact) → ((e : Fact × Set) → In e fs → In e es) → In g (facts_at fs a) → In g (facts_at es a)
permuted_facts es fs a g sub i =
    let s = held_from fs a g i in
    let P : Fact → Type 0 = λ v. In v (facts_at es a) in
    subst P s.2 (In-held es a s.0 (sub s.0 s.1) s.3)

pub permuted_made : (k : Known) (es fs : Entries) → IsPermutation es fs → AreMadeBy k es → AreMadeBy k fs
permuted_made k es fs p m = record { each = λ e i. m.each e (from_permuted es fs e p i) }

-- a store with the facts of entries in another order lists them
pub lists_facts : (es fs new : Entries) → IsPermutation es fs → IsStore new → HasFactsOf fs new → (a : Assignment) → Lists fact_cmp (λ f. In f (facts_at es a)) (facts_at new a)
lists_facts es fs new p s h a = record {
  ascends = facts_ascend new a s.ascends;
  exact = λ g. (
    (λ i. permuted_facts es fs a g (λ e j. from_permuted es fs e p j) ((h.each a g).0 i)),
    λ i. (h.each a g).1 (permuted_facts fs es a g (λ e j. from_permuted fs es e (IsPermutation-sym es fs p) j) i),
  );
}
