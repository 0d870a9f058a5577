-- What stays true of sets while the contexts that made them grow. Crates above name these lemmas in
-- `using(lfg_context::proofs::Growing::growing)`.
use Rattle.std.proofs.Common.{◌≡◌, ℕ, ◌<◌, ◌≤◌, ◌⊎◌, zero, suc, inl, inr, List, [], ◌∷◌, ◌++◌, length, get_or, slice_set, refl, sym, ◌∙◌, ap, subst, arith}
use Rattle.lfg_terms.specs.declared.choice.Choice.{Choice}
use Rattle.lfg_choice.specs.Choices.{alternatives_of}
use Rattle.lfg_model.specs.Lists.{In, here, later}
use Rattle.lfg_model.proofs.ListLaws.{In-at, In-push_cases, In-nil, In-cons_cases}
use Rattle.lfg_context.specs.Cubes.{taken}
use Rattle.lfg_context.specs.Seen.{Set, Known}
use Rattle.lfg_context.specs.Sets.{Assignment, TakeAlike, arity_of, IsInTable, IsLater, IsMade, IsGrown, HasSamePicks, HasPicksOf, AreMade}

taken_none : (a : ℕ → ℕ) (c n : ℕ) → n < 2 → taken a c n ≡ 0
taken_none a c n h = omega arith

-- what took alike with the later numbers of alternatives took alike with the earlier ones
alike_before : (ar br : ℕ → ℕ) (a b : Assignment) → ((c : ℕ) → 2 ≤ ar c → br c ≡ ar c) → TakeAlike br a b → TakeAlike ar a b
alike_before ar br a b agrees alike c = elim (split (ar c)) [
  | inl low ↦ taken_none a c (ar c) low ∙ sym (taken_none b c (ar c) low)
  | inr two ↦ ap (taken a c) (sym (agrees c two)) ∙ alike c ∙ ap (taken b c) (agrees c two)
]
  where
    split : (n : ℕ) → (n < 2) ⊎ (2 ≤ n)
    split n = grind arith

-- a set that was made is still one of the sets
pub made_grown : {k l : Known} {x : Set} → IsGrown k l → IsMade k x → IsMade l x
unfolding IsInTable IsLater
made_grown {k} {l} {x} g m = record {
  in_table = (
    (let a = g.later.0 in let b = m.in_table.0 in omega arith),
    m.in_table.1 ∙ sym (g.later.1 x.0 m.in_table.0),
    λ a b alike. m.in_table.2 a b (alike_before (arity_of k) (arity_of l) a b g.later.2 alike),
  );
}

pub grown_refl : (k : Known) → IsGrown k k
unfolding IsLater
grown_refl k = record { later = (omega arith, (λ n h. refl), λ c h. refl) }

pub grown_trans : {k l m : Known} → IsGrown k l → IsGrown l m → IsGrown k m
unfolding IsLater
grown_trans {k} {l} {m} g h = record {
  later = (
    (let a = g.later.0 in let b = h.later.0 in omega arith),
    (λ n w. h.later.1 n (let a = g.later.0 in omega arith) ∙ g.later.1 n w),
    λ c two. h.later.2 c (let e = g.later.2 c two in omega arith) ∙ g.later.2 c two,
  );
}

-- a choice that was picked keeps its number of alternatives
pub arity_grown : {k l : Known} (c : ℕ) → IsGrown k l → 2 ≤ arity_of k c → arity_of l c ≡ arity_of k c
unfolding IsLater
arity_grown {k} {l} c g two = g.later.2 c two

-- the picks after calls that pick nothing
pub same_picks_refl : (k : Known) → HasSamePicks k k
same_picks_refl k = record { arities = λ c. refl }

pub same_picks_trans : {k l m : Known} → HasSamePicks k l → HasSamePicks l m → HasSamePicks k m
same_picks_trans {k} {l} {m} p q = record { arities = λ c. q.arities c ∙ p.arities c }

pub picks_kept : {k l : Known} {space : List Choice} → HasSamePicks k l → HasPicksOf k space → HasPicksOf l space
picks_kept {k} {l} {space} p q = record { agrees = λ c h some. p.arities c ∙ q.agrees c h (λ none. some (p.arities c ∙ none)) }

-- contexts that have picked nothing agree with each space
pub no_picks : {k : Known} (space : List Choice) → ((c : ℕ) → arity_of k c ≡ 0) → HasPicksOf k space
no_picks {k} space none = record { agrees = λ c h some. absurd (some (none c)) }

-- the condition of `pick`, where the picks so far agree with the space
pub pickable : {k : Known} {space : List Choice} (c : ℕ) → HasPicksOf k space → c < length space → (arity_of k c ≡ 0) ⊎ (arity_of k c ≡ alternatives_of space c)
pickable {k} {space} c p h = elim (split (arity_of k c)) [ inl none ↦ inl none | inr some ↦ inr (p.agrees c h some) ]
  where
    split : (n : ℕ) → (n ≡ 0) ⊎ (n ≡ 0 → ⊥)
    split n = grind arith

-- the sets of a list of things
pub are_made_grown : {X : Type 0} {k l : Known} {set_of : X → Set} {xs : List X} → IsGrown k l → AreMade k set_of xs → AreMade l set_of xs
are_made_grown {X} {k} {l} {set_of} {xs} g m = record { each = λ x h. made_grown g (m.each x h) }

pub are_made_nil : {X : Type 0} (k : Known) (set_of : X → Set) → AreMade k set_of []
are_made_nil {X} k set_of = record { each = λ x h. In-nil h }

pub are_made_push : {X : Type 0} {k : Known} {set_of : X → Set} {xs : List X} {x : X} → AreMade k set_of xs → IsMade k (set_of x) → AreMade k set_of (xs ++ x ∷ [])
are_made_push {X} {k} {set_of} {xs} {x} m one = record { each = λ y h. by_place y (In-push_cases xs x h) }
  where
    by_place : (y : X) → In y xs ⊎ (y ≡ x) → IsMade k (set_of y)
    by_place y (inl old) = m.each y old
    by_place y (inr e) = let P : X → Type 0 = λ v. IsMade k (set_of v) in subst P (sym e) one

pub made_of : {X : Type 0} {k : Known} {set_of : X → Set} {xs : List X} {x : X} → AreMade k set_of xs → In x xs → IsMade k (set_of x)
made_of {X} {k} {set_of} {xs} {x} m h = m.each x h

pub made_at : {X : Type 0} {k : Known} {set_of : X → Set} {xs : List X} (i : ℕ) (x : X) → AreMade k set_of xs → i < length xs → x ≡ get_or xs i x → IsMade k (set_of x)
made_at {X} {k} {set_of} {xs} i x m h e = let P : X → Type 0 = λ v. IsMade k (set_of v) in subst P (sym e) (m.each (get_or xs i x) (In-at xs i x h))

-- what stands in a list after a write
In-set_cases : {X : Type 0} (xs : List X) (i : ℕ) (x y : X) → In y (slice_set xs i x) → (y ≡ x) ⊎ In y xs
In-set_cases {X} [] i x y h = In-nil h
In-set_cases {X} (z ∷ zs) zero x y h = head (In-cons_cases h)
  where
    head : (y ≡ x) ⊎ In y zs → (y ≡ x) ⊎ In y (z ∷ zs)
    head (inl e) = inl e
    head (inr rest) = inr (later rest)
In-set_cases {X} (z ∷ zs) (suc i) x y h = tail (λ w. In-set_cases zs i x y w) (In-cons_cases h)
  where
    tail : (In y (slice_set zs i x) → (y ≡ x) ⊎ In y zs) → (y ≡ z) ⊎ In y (slice_set zs i x) → (y ≡ x) ⊎ In y (z ∷ zs)
    tail ih (inl e) = inr (let P : X → Type 0 = λ v. In v (z ∷ zs) in subst P (sym e) here)
    tail ih (inr rest) = elim (ih rest) [ inl e ↦ inl e | inr w ↦ inr (later w) ]

-- the same for a list of sets, and for a list of pairs with a set behind
pub set_made_at : {k : Known} {xs : List Set} (i : ℕ) (x : Set) → AreMade k (λ v. v) xs → i < length xs → x ≡ get_or xs i x → IsMade k x
set_made_at {k} {xs} i x m h e = made_at i x m h e

pub pair_made_at : {X : Type 0} {k : Known} {xs : List (X × Set)} (i : ℕ) (x : X × Set) → AreMade k (λ v. v.1) xs → i < length xs → x ≡ get_or xs i x → IsMade k x.1
pair_made_at {X} {k} {xs} i x m h e = made_at i x m h e

pub are_made_set : {X : Type 0} {k : Known} {set_of : X → Set} {xs : List X} (i : ℕ) (x : X) → AreMade k set_of xs → IsMade k (set_of x) → AreMade k set_of (slice_set xs i x)
are_made_set {X} {k} {set_of} {xs} i x m one = record {
  each = λ y h. elim (In-set_cases xs i x y h) [
    | inl e ↦ (let P : X → Type 0 = λ v. IsMade k (set_of v) in subst P (sym e) one)
    | inr old ↦ m.each y old
  ];
}

-- Lemmas for a function that calls `and`, `or`, .. while it keeps other sets.
pub ruleset growing = (made_grown, grown_trans, grown_refl, same_picks_trans, same_picks_refl, picks_kept, no_picks, pickable, are_made_grown, are_made_nil, are_made_push, are_made_set, set_made_at, pair_made_at)
