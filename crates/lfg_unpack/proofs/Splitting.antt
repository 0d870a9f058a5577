-- The sets that tell the pairs of a piece apart.
use Rattle.std.proofs.Common.{◌≡◌, ℕ, ◌+◌, ◌<◌, ◌≤◌, Bool, true, false, ◌&&◌, cond, List, [], ◌∷◌, ◌++◌, length, map, get_or, take, refl, sym, ◌∙◌, ap, subst, inl, inr, ◌⊎◌, arith, length-append}
use Rattle.std.specs.Prelude.{not}
use Rattle.std.proofs.lemmas.List.{take_more, take_all, map-append}
use Rattle.lfg_terms.specs.declared.node.Fact.{Fact}
use Rattle.lfg_model.specs.Lists.{In, here, later}
use Rattle.lfg_model.proofs.ListLaws.{In-nil, In-at, In-one, In-cons_cases, In-push, In-push_cases, In-append_cases, In-append_left, In-append_right}
use Rattle.lfg_context.specs.Seen.{Set}
use Rattle.lfg_context.specs.Sets.{Assignment, member}
use Rattle.lfg_store.specs.Facts.{Entries, facts_at}
use Rattle.lfg_store.specs.Unpacking.{pair_of}
use Rattle.lfg_unpack.specs.Pieces.{Agree, IsSettled, IsSifted, settled, added, Settles, TellsPairs, IsAmong, AreAmong, Includes, Gathers}

pub both_true : (x y : Bool) → x ≡ true → y ≡ true → (x && y) ≡ true
both_true true y e f = f
both_true false y e f = absurd (cc)

pub and_both : (x y : Bool) → (x && y) ≡ true → (x ≡ true) × (y ≡ true)
and_both true y e = (refl, e)
and_both false y e = absurd (cc)

not_true : (y : Bool) → not y ≡ true → y ≡ false
not_true true e = absurd (cc)
not_true false e = refl

neither : (x y : Bool) → (x && y) ≡ false → x ≡ true → y ≡ false
neither true y e f = e
neither false y e f = absurd (cc)

not_false : (y : Bool) → not y ≡ false → y ≡ true
not_false true e = refl
not_false false e = absurd (cc)

-- a set that no assignment of the piece has, or each one
pub settled_outside : (piece by rest : Set) → ((a : Assignment) → member rest a ≡ (member piece a && member by a)) → ((a : Assignment) → member rest a ≡ false) → IsSettled piece by
settled_outside piece by rest is none = record {
  same = λ a b m n. neither (member piece a) (member by a) (sym (is a) ∙ none a) m ∙ sym (neither (member piece b) (member by b) (sym (is b) ∙ none b) n);
}

pub settled_inside : (piece by rest : Set) → ((a : Assignment) → member rest a ≡ (member piece a && not (member by a))) → ((a : Assignment) → member rest a ≡ false) → IsSettled piece by
settled_inside piece by rest is none = record {
  same = λ a b m n.
      not_false (member by a) (neither (member piece a) (not (member by a)) (sym (is a) ∙ none a) m)
      ∙ sym (not_false (member by b) (neither (member piece b) (not (member by b)) (sym (is b) ∙ none b) n));
}

-- a loop over the sets
pub settles_none : (piece : Set) → Settles piece [] []
settles_none piece = record { each = λ x i. In-nil i }

settles_from : (piece : Set) (sets : List Set) (i : ℕ) (x : Set) (now new : List Set) → i < length sets → x ≡ get_or sets i x → Settles piece (take i sets) now
    → ((y : Set) → In y now → In y new) → In x new ⊎ IsSettled piece x → Settles piece (take (i + 1) sets) new
settles_from piece sets i x now new l at s wider this =
    subst (λ (v : List Set). Settles piece v new) (sym (take_more sets i x l ∙ ap (λ v. take i sets ++ v ∷ []) (sym at))) (record {
      each = λ y j. elim (In-push_cases (take i sets) x j) [
        | inl k ↦ elim (s.each y k) [ inl w ↦ inl (wider y w) | inr t ↦ inr t ]
        | inr e ↦ (let P : Set → Type 0 = λ v. In v new ⊎ IsSettled piece v in subst P (sym e) this)
      ];
    })

pub settles_sifted : (piece : Set) (sets : List Set) (i : ℕ) (x : Set) (now new : List Set) → i < length sets → x ≡ get_or sets i x → Settles piece (take i sets) now
    → IsSifted piece x now new → Settles piece (take (i + 1) sets) new
settles_sifted piece sets i x now new l at s (settled t e) = settles_from piece sets i x now new l at s (λ y w. subst (λ (v : List Set). In y v) (sym e) w) (inr t)
settles_sifted piece sets i x now new l at s (added e) = settles_from piece sets i x now new l at s (λ y w. subst (λ (v : List Set). In y v) (sym e) (In-append_left (x ∷ []) w)) (inl (subst (λ (v : List Set). In x v) (sym e) (In-push now x)))

pub settles_all : (piece : Set) (sets : List Set) (i : ℕ) (now : List Set) → length sets ≤ i → Settles piece (take i sets) now → Settles piece sets now
settles_all piece sets i now l s = subst (λ (v : List Set). Settles piece v now) (take_all i sets l) s

-- what tells the pairs apart
pub tells_left : (tree facts : Entries) (piece : Set) (sets left : List Set) → TellsPairs tree facts piece sets → Settles piece sets left → TellsPairs tree facts piece left
tells_left tree facts piece sets left t s = record {
  tells = λ a b m n agree. t.tells a b m n (λ x i. elim (s.each x i) [ inl j ↦ agree x j | inr w ↦ w.same a b m n ]);
}

tells_part : (tree facts : Entries) (piece part by : Set) (others : List Set) → TellsPairs tree facts piece (by ∷ others)
    → ((a : Assignment) → member part a ≡ true → member piece a ≡ true)
    → ((a b : Assignment) → member part a ≡ true → member part b ≡ true → member by a ≡ member by b) → TellsPairs tree facts part others
tells_part tree facts piece part by others t within same = record {
  tells = λ a b m n agree. t.tells a b (within a m) (within b n) (λ x i. elim (In-cons_cases i) [
    | inl e ↦ (let P : Set → Type 0 = λ v. member v a ≡ member v b in subst P (sym e) (same a b m n))
    | inr j ↦ agree x j
  ]);
}

pub tells_inside : (tree facts : Entries) (piece part by : Set) (others : List Set) → TellsPairs tree facts piece (by ∷ others)
    → ((a : Assignment) → member part a ≡ (member piece a && member by a)) → TellsPairs tree facts part others
tells_inside tree facts piece part by others t is = tells_part tree facts piece part by others t (λ a m. (split a m).0) (λ a b m n. (split a m).1 ∙ sym (split b n).1)
  where
    split : (a : Assignment) → member part a ≡ true → (member piece a ≡ true) × (member by a ≡ true)
    split a m = and_both (member piece a) (member by a) (sym (is a) ∙ m)

pub tells_outside : (tree facts : Entries) (piece part by : Set) (others : List Set) → TellsPairs tree facts piece (by ∷ others)
    → ((a : Assignment) → member part a ≡ (member piece a && not (member by a))) → TellsPairs tree facts part others
tells_outside tree facts piece part by others t is =
    tells_part tree facts piece part by others t (λ a m. (split a m).0) (λ a b m n. not_true (member by a) (split a m).1 ∙ sym (not_true (member by b) (split b n).1))
  where
    split : (a : Assignment) → member part a ≡ true → (member piece a ≡ true) × (not (member by a) ≡ true)
    split a m = and_both (member piece a) (not (member by a)) (sym (is a) ∙ m)

-- the sets at first
pub among_wider : (xs ys : List Set) (x : Set) → Includes xs ys → IsAmong xs x → IsAmong ys x
among_wider xs ys x i h = record { set = h.set; stands = i h.set h.stands; same = h.same }

pub all_among_wider : (xs ys : List Set) (es : Entries) → Includes xs ys → AreAmong xs es → AreAmong ys es
all_among_wider xs ys es i h = record { each = λ e j. among_wider xs ys e.1 i (h.each e j) }

-- contexts gathered, entry by entry
pub gathers_none : (old : List Set) → Gathers [] old old
gathers_none old = record { kept = λ x i. i; among = record { each = λ e i. In-nil i }; only = λ x i. inl i }

pub gathers_known : (old : List Set) (e : Fact × Set) → IsAmong old e.1 → Gathers (e ∷ []) old old
gathers_known old e h = record {
  kept = λ x i. i;
  among = record { each = λ d i. (let P : Fact × Set → Type 0 = λ v. IsAmong old v.1 in subst P (sym (In-one i)) h) };
  only = λ x i. inl i;
}

pub gathers_push : (old : List Set) (e : Fact × Set) (x : Set) → x ≡ e.1 → Gathers (e ∷ []) old (old ++ x ∷ [])
gathers_push old e x same = record {
  kept = λ y i. In-append_left (x ∷ []) i;
  among = record {
    each = λ d i.
        (let P : Fact × Set → Type 0 = λ v. IsAmong (old ++ x ∷ []) v.1 in
        subst P (sym (In-one i)) (record { set = x; stands = In-push old x; same = λ a. ap (λ v. member v a) (sym same) }));
  };
  only = λ y i. elim (In-push_cases old x i) [
    | inl j ↦ inl j
    | inr q ↦ inr (subst (λ (v : Set). In v (e.1 ∷ [])) (sym (q ∙ same)) here)
  ];
}

gathers_both : (es fs : Entries) (old mid new : List Set) → Gathers es old mid → Gathers fs mid new → Gathers (es ++ fs) old new
gathers_both es fs old mid new g h = record {
  kept = λ x i. h.kept x (g.kept x i);
  among = record {
    each = λ e i. elim (In-append_cases es fs i) [ inl j ↦ among_wider mid new e.1 h.kept (g.among.each e j) | inr j ↦ h.among.each e j ];
  };
  only = λ x i. elim (h.only x i) [
    | inl j ↦ elim (g.only x j) [ inl k ↦ inl k | inr k ↦ inr (subst (In x) (sym (map-append (λ e. e.1) es fs)) (In-append_left (map (λ e. e.1) fs) k)) ]
    | inr j ↦ inr (subst (In x) (sym (map-append (λ e. e.1) es fs)) (In-append_right (map (λ e. e.1) es) j))
  ];
}

pub gathers_more : (es : Entries) (i : ℕ) (e : Fact × Set) (old mid new : List Set) → i < length es → e ≡ get_or es i e → Gathers (take i es) old mid → Gathers (e ∷ []) mid new
    → Gathers (take (i + 1) es) old new
gathers_more es i e old mid new l at g h =
    subst (λ (v : Entries). Gathers v old new) (sym (take_more es i e l ∙ ap (λ v. take i es ++ v ∷ []) (sym at))) (gathers_both (take i es) (e ∷ []) old mid new g h)

pub gathers_all : (es : Entries) (i : ℕ) (old new : List Set) → length es ≤ i → Gathers (take i es) old new → Gathers es old new
gathers_all es i old new l g = subst (λ (v : Entries). Gathers v old new) (take_all i es l) g

same_facts : (sets : List Set) (es : Entries) (a b : Assignment) → AreAmong sets es → Agree sets a b → facts_at es a ≡ facts_at es b
same_facts sets [] a b h agree = refl
same_facts sets (e ∷ es) a b h agree =
    let s = h.each e here in
    let same : member e.1 a ≡ member e.1 b = s.same a ∙ agree s.set s.stands ∙ sym (s.same b) in
    let rest : facts_at es a ≡ facts_at es b = same_facts sets es a b (record { each = λ d i. h.each d (later i) }) agree in
    ap (λ m. cond m (e.0 ∷ facts_at es a) (facts_at es a)) same ∙ ap (λ fs. cond (member e.1 b) (e.0 ∷ fs) fs) rest

pub tells_first : (tree facts : Entries) (piece : Set) (old mid sets : List Set) → Gathers tree old mid → Gathers facts mid sets → TellsPairs tree facts piece sets
tells_first tree facts piece old mid sets g h = record {
  tells = λ a b m n agree. λ i. record { tree = same_facts sets tree a b (all_among_wider mid sets tree h.kept g.among) agree i; facts = same_facts sets facts a b h.among agree i };
}

-- a loop that leaves sets out
pub includes_none : (ys : List Set) → Includes [] ys
includes_none ys x i = In-nil i

pub includes_sifted : (piece : Set) (sets : List Set) (i : ℕ) (x : Set) (now new : List Set) → i < length sets → x ≡ get_or sets i x → Includes now sets → IsSifted piece x now new → Includes new sets
includes_sifted piece sets i x now new l at h (settled t e) = λ z w. h z (subst (λ (v : List Set). In z v) e w)
includes_sifted piece sets i x now new l at h (added e) = λ z w. elim (In-push_cases now x (subst (λ (v : List Set). In z v) e w)) [
  | inl j ↦ h z j
  | inr q ↦ subst (λ (v : Set). In v sets) (sym (q ∙ at)) (In-at sets i x l)
]

pub sifted_longer : (piece x : Set) (now new : List Set) → IsSifted piece x now new → length new ≤ length now + 1
sifted_longer piece x now new (settled t e) = omega (arith, ap length e)
sifted_longer piece x now new (added e) = omega (arith, ap length e, length-append now (x ∷ []))

pub among_at : (sets : List Set) (i : ℕ) (x y : Set) → i < length sets → x ≡ get_or sets i x → ((a : Assignment) → member y a ≡ member x a) → IsAmong sets y
among_at sets i x y l at same = record { set = x; stands = subst (λ (v : Set). In v sets) (sym at) (In-at sets i x l); same = same }
