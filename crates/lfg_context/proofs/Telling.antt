-- Sets of assignments that are told by facts: how they are united in a loop. Crates above cite these
-- lemmas.
use Rattle.std.proofs.Common.{◌≡◌, ℕ, ◌<◌, ◌≤◌, ◌+◌, ◌⊎◌, inl, inr, Bool, true, false, ◌&&◌, ◌||◌, not, List, [], length, get_or, take, subst, sym, ◌∙◌, refl, arith}
use Rattle.std.proofs.lemmas.List.{take_all, take_more}
use Rattle.std.specs.Prelude.{◌↔◌}
use Rattle.lfg_model.specs.Lists.{In}
use Rattle.lfg_model.proofs.ListLaws.{In-take_more, In-nil, In-push, In-append_left}
use Rattle.lfg_context.specs.Seen.{Set}
use Rattle.lfg_context.specs.Sets.{Assignment, member}
use Rattle.lfg_context.specs.Telling.{Tells, InSome, Excludes, OfAll}

pub and_true : (p q : Bool) → (p && q) ≡ true → (p ≡ true) × (q ≡ true)
and_true p q e = grind arith

pub and_from : (p q : Bool) → p ≡ true → q ≡ true → (p && q) ≡ true
and_from p q e f = grind arith

pub or_true : (p q : Bool) → (p || q) ≡ true → (p ≡ true) ⊎ (q ≡ true)
or_true true q e = inl refl
or_true false q e = inr e

pub or_left : (p q : Bool) → p ≡ true → (p || q) ≡ true
or_left p q e = grind arith

pub or_right : (p q : Bool) → q ≡ true → (p || q) ≡ true
or_right p q e = grind arith

pub or_none : (p q : Bool) → (p || q) ≡ false → (p ≡ false) × (q ≡ false)
or_none p q e = grind arith

pub none_or : (p q : Bool) → p ≡ false → q ≡ false → (p || q) ≡ false
none_or p q e f = grind arith

pub without_true : (p q : Bool) → (p && not q) ≡ true → (p ≡ true) × (q ≡ true → ⊥)
without_true true true e = let no : false ≡ true = e in absurd (cc)
without_true true false e = (refl, λ f. let no : false ≡ true = f in absurd (cc))
without_true false q e = let no : false ≡ true = e in absurd (cc)

pub without_from : (p q : Bool) → p ≡ true → (q ≡ true → ⊥) → (p && not q) ≡ true
without_from p true e f = absurd (f refl)
without_from p false e f = and_from p true e refl

pub not_true : (p : Bool) → (p ≡ true → ⊥) → p ≡ false
not_true true f = absurd (f refl)
not_true false f = refl

pub true_or_false : (p : Bool) → (p ≡ true) ⊎ (p ≡ false)
true_or_false true = inl refl
true_or_false false = inr refl

pub true_not_false : {p : Bool} → p ≡ true → p ≡ false → ⊥
true_not_false {p} e f = let no : true ≡ false = sym e ∙ f in absurd (cc)

-- the same set, told otherwise
pub tells_as : {x : Set} {P Q : Assignment → Type 0} → Tells x P → ((a : Assignment) → P a ↔ Q a) → Tells x Q
tells_as t f = record { each = λ a. ((λ h. (f a).0 ((t.each a).0 h)), (λ q. (t.each a).1 ((f a).1 q))) }

pub excludes_as : {x : Set} {P Q : Assignment → Type 0} → Excludes x P → ((a : Assignment) → P a ↔ Q a) → Excludes x Q
excludes_as t f = record { each = λ a. ((λ h. (f a).0 ((t.each a).0 h)), (λ q. (t.each a).1 ((f a).1 q))) }

-- a set with the same members tells the same
pub tells_equal : {x y : Set} {P : Assignment → Type 0} → Tells x P → ((a : Assignment) → member y a ≡ member x a) → Tells y P
tells_equal t e = record { each = λ a. ((λ h. (t.each a).0 (sym (e a) ∙ h)), (λ p. e a ∙ (t.each a).1 p)) }

-- where something holds at the members of a set, and nowhere else, the rest excludes it
pub excludes_of : {x : Set} {P : Assignment → Type 0} → Tells x P → Excludes x (λ a. ¬ P a)
excludes_of {x} t = record {
  each = λ a. (
    (λ f p. true_not_false ((t.each a).1 p) f),
    (λ n. not_true (member x a) (λ h. n ((t.each a).0 h))),
  );
}

-- meets, unions and differences
pub tells_and : {x y z : Set} {P Q : Assignment → Type 0} → Tells x P → Tells y Q → ((a : Assignment) → member z a ≡ (member x a && member y a)) → Tells z (λ a. P a × Q a)
tells_and {x} {y} t u e = record {
  each = λ a. (
    (λ h. let b = and_true (member x a) (member y a) (sym (e a) ∙ h) in ((t.each a).0 b.0, (u.each a).0 b.1)),
    (λ h. e a ∙ and_from (member x a) (member y a) ((t.each a).1 h.0) ((u.each a).1 h.1)),
  );
}

pub tells_or : {x y z : Set} {P Q : Assignment → Type 0} → Tells x P → Tells y Q → ((a : Assignment) → member z a ≡ (member x a || member y a)) → Tells z (λ a. P a ⊎ Q a)
tells_or {x} {y} t u e = record {
  each = λ a. (
    (λ h. elim (or_true (member x a) (member y a) (sym (e a) ∙ h)) [ inl p ↦ inl ((t.each a).0 p) | inr q ↦ inr ((u.each a).0 q) ]),
    (λ h. elim h [
      | inl p ↦ e a ∙ or_left (member x a) (member y a) ((t.each a).1 p)
      | inr q ↦ e a ∙ or_right (member x a) (member y a) ((u.each a).1 q)
    ]),
  );
}

pub tells_without : {x y z : Set} {P Q : Assignment → Type 0} → Tells x P → Tells y Q → ((a : Assignment) → member z a ≡ (member x a && not (member y a))) → Tells z (λ a. P a × (¬ Q a))
tells_without {x} {y} t u e = record {
  each = λ a. (
    (λ h. let b = without_true (member x a) (member y a) (sym (e a) ∙ h) in ((t.each a).0 b.0, λ q. b.1 ((u.each a).1 q))),
    (λ h. e a ∙ without_from (member x a) (member y a) ((t.each a).1 h.0) (λ q. h.1 ((u.each a).0 q))),
  );
}

-- what excludes one thing or the other excludes that both hold
pub excludes_or : {x y z : Set} {P Q : Assignment → Type 0} → Excludes x P → Excludes y Q → ((a : Assignment) → member z a ≡ (member x a || member y a)) → Excludes z (λ a. P a × Q a)
excludes_or {x} {y} t u e = record {
  each = λ a. (
    (λ h. let b = or_none (member x a) (member y a) (sym (e a) ∙ h) in ((t.each a).0 b.0, (u.each a).0 b.1)),
    (λ h. e a ∙ none_or (member x a) (member y a) ((t.each a).1 h.0) ((u.each a).1 h.1)),
  );
}

-- the first elements of a list, one by one
pub In-take_one : {X : Type 0} {x : X} (xs : List X) (i : ℕ) (d : X) → i < length xs → In x (take i xs) → In x (take (i + 1) xs)
In-take_one {X} {x} xs i d h j = let P : List X → Type 0 = λ ys. In x ys in subst P (sym (take_more xs i d h)) (In-append_left _ j)

pub In-take_last : {X : Type 0} (xs : List X) (i : ℕ) (d : X) → i < length xs → In (get_or xs i d) (take (i + 1) xs)
In-take_last {X} xs i d h = let P : List X → Type 0 = λ ys. In (get_or xs i d) ys in subst P (sym (take_more xs i d h)) (In-push (take i xs) (get_or xs i d))

-- of no elements
pub in_none : {X : Type 0} {x : Set} (P : X → Assignment → Type 0) → ((a : Assignment) → member x a ≡ false) → Tells x (InSome [] P)
in_none P e = record { each = λ a. ((λ h. let no : false ≡ true = sym (e a) ∙ h in absurd (cc)), (λ s. In-nil s.listed)) }

-- a loop's step: the element at i, and what its set adds
pub in_more : {X : Type 0} {old one z : Set} (P : X → Assignment → Type 0) (xs : List X) (i : ℕ) (d : X) → i < length xs → d ≡ get_or xs i d
    → Tells old (InSome (take i xs) P) → Tells one (P d) → ((a : Assignment) → member z a ≡ (member old a || member one a)) → Tells z (InSome (take (i + 1) xs) P)
in_more {X} {old} {one} {z} P xs i d h is t u e = record {
  each = λ a. (
    (λ m. elim (or_true (member old a) (member one a) (sym (e a) ∙ m)) [
      | inl p ↦ (let s = (t.each a).0 p in record { item = s.item; listed = In-take_one xs i d h s.listed; holds = s.holds })
      | inr q ↦ record { item = d; listed = last; holds = (u.each a).0 q }
    ]),
    (λ s. elim (In-take_more xs i d h s.listed) [
      | inl j ↦ e a ∙ or_left _ _ ((t.each a).1 (record { item = s.item; listed = j; holds = s.holds }))
      | inr f ↦ (let Q : X → Type 0 = λ v. P v a in e a ∙ or_right _ _ ((u.each a).1 (subst Q (f ∙ sym is) s.holds)))
    ]),
  );
}
  where
    last : In d (take (i + 1) xs)
    last = let R : X → Type 0 = λ v. In v (take (i + 1) xs) in subst R (sym is) (In-take_last xs i d h)

-- a loop's step over an element of which P is true nowhere
pub in_skip : {X : Type 0} {old : Set} (P : X → Assignment → Type 0) (xs : List X) (i : ℕ) (d : X) → i < length xs → d ≡ get_or xs i d
    → Tells old (InSome (take i xs) P) → ((a : Assignment) → P d a → ⊥) → Tells old (InSome (take (i + 1) xs) P)
in_skip {X} {old} P xs i d h is t n = record {
  each = λ a. (
    (λ m. let s = (t.each a).0 m in record { item = s.item; listed = In-take_one xs i d h s.listed; holds = s.holds }),
    (λ s. elim (In-take_more xs i d h s.listed) [
      | inl j ↦ (t.each a).1 (record { item = s.item; listed = j; holds = s.holds })
      | inr f ↦ (let Q : X → Type 0 = λ v. P v a in absurd (n a (subst Q (f ∙ sym is) s.holds)))
    ]),
  );
}

-- a loop's end
pub in_all : {X : Type 0} {z : Set} (P : X → Assignment → Type 0) (xs : List X) (i : ℕ) → length xs ≤ i → Tells z (InSome (take i xs) P) → Tells z (InSome xs P)
in_all {X} {z} P xs i h t = let Q : List X → Type 0 = λ ys. Tells z (InSome ys P) in subst Q (take_all i xs h) t

-- of all of no elements
pub of_none : {X : Type 0} {x : Set} (P : X → Assignment → Type 0) → ((a : Assignment) → member x a ≡ false) → Excludes x (OfAll [] P)
of_none P e = record { each = λ a. ((λ h. record { each = λ x i. In-nil i }), (λ s. e a)) }

-- a loop's step: the element at i, and the assignments at which it fails
pub of_more : {X : Type 0} {old one z : Set} (P : X → Assignment → Type 0) (xs : List X) (i : ℕ) (d : X) → i < length xs → d ≡ get_or xs i d
    → Excludes old (OfAll (take i xs) P) → Excludes one (P d) → ((a : Assignment) → member z a ≡ (member old a || member one a)) → Excludes z (OfAll (take (i + 1) xs) P)
of_more {X} {old} {one} {z} P xs i d h is t u e = record {
  each = λ a. (
    (λ m. let b = or_none (member old a) (member one a) (sym (e a) ∙ m) in let s = (t.each a).0 b.0 in
        record {
          each = λ x j. elim (In-take_more xs i d h j) [
            | inl k ↦ s.each x k
            | inr f ↦ (let Q : X → Type 0 = λ v. P v a in subst Q (sym (f ∙ sym is)) ((u.each a).0 b.1))
          ];
        }),
    (λ s. e a ∙ none_or _ _ ((t.each a).1 (record { each = λ x j. s.each x (In-take_one xs i d h j) })) ((u.each a).1 (s.each d last))),
  );
}
  where
    last : In d (take (i + 1) xs)
    last = let R : X → Type 0 = λ v. In v (take (i + 1) xs) in subst R (sym is) (In-take_last xs i d h)

-- a loop's step over an element of which P is true everywhere
pub of_skip : {X : Type 0} {old : Set} (P : X → Assignment → Type 0) (xs : List X) (i : ℕ) (d : X) → i < length xs → d ≡ get_or xs i d
    → Excludes old (OfAll (take i xs) P) → ((a : Assignment) → P d a) → Excludes old (OfAll (take (i + 1) xs) P)
of_skip {X} {old} P xs i d h is t n = record {
  each = λ a. (
    (λ m. let s = (t.each a).0 m in
        record {
          each = λ x j. elim (In-take_more xs i d h j) [
            | inl k ↦ s.each x k
            | inr f ↦ (let Q : X → Type 0 = λ v. P v a in subst Q (sym (f ∙ sym is)) (n a))
          ];
        }),
    (λ s. (t.each a).1 (record { each = λ x j. s.each x (In-take_one xs i d h j) })),
  );
}

-- a loop's end
pub of_all : {X : Type 0} {z : Set} (P : X → Assignment → Type 0) (xs : List X) (i : ℕ) → length xs ≤ i → Excludes z (OfAll (take i xs) P) → Excludes z (OfAll xs P)
of_all {X} {z} P xs i h t = let Q : List X → Type 0 = λ ys. Excludes z (OfAll ys P) in subst Q (take_all i xs h) t
