-- Sets of strings that grow, and the faults of what makes them.
use Rattle.std.proofs.Common.{◌≡◌, ℕ, zero, suc, ◌+◌, ◌<◌, ◌≤◌, List, [], ◌∷◌, ◌++◌, length, map, drop, get_or, take, refl, sym, ap, subst, ◌∙◌, arith, inl, inr, ◌⊎◌}
use Rattle.std.proofs.lemmas.List.{length-append, take_more}
use Rattle.std.specs.List.{insert}
use Rattle.std.specs.List.Sorted.{IsStrictlySortedBy}
use Rattle.lfg_model.specs.Lists.{In, here, Once, none, more}
use Rattle.lfg_model.specs.Terms.{Path}
use Rattle.lfg_model.specs.PathExpressions.{MoreThan}
use Rattle.lfg_model.proofs.ListLaws.{In-append_left, In-append_right, In-push, In-nil, In-one, In-take, In-take_more, In_from_map, In-cons_cases}
use Rattle.lfg_regpath.specs.declared.fault.PathFault.{PathFault}
use Rattle.lfg_regpath.specs.declared.fault.PathFault.TheVariants.{TooManyPaths, NoPath, Memory}
use Rattle.lfg_regpath.specs.Sets.{Holds, IsSet, IsPlace, Overfull, IsPair, IsJoin}
use Rattle.lfg_regpath.proofs.Places.{length-insert, In_insert_cases, In_insert_still, once_of}

-- ---- a list that is read

pub at_drop : {X : Type 0} (xs : List X) (i : ℕ) (x : X) → i < length xs → x ≡ get_or xs i x → drop i xs ≡ x ∷ drop (i + 1) xs
at_drop [] i x l e = absurd (omega arith)
at_drop (y ∷ xs) zero x l e = sym (ap (λ z. z ∷ xs) e)
at_drop (y ∷ xs) (suc i) x l e =
    let r = at_drop xs i x (omega arith) e in
    let k : suc i + 1 ≡ suc (i + 1) = omega arith in
    rw k r

pub drop_whole : {X : Type 0} (i : ℕ) (xs : List X) → length xs ≤ i → drop i xs ≡ []
drop_whole zero [] l = refl
drop_whole zero (x ∷ xs) l = absurd (omega arith)
drop_whole (suc i) [] l = refl
drop_whole (suc i) (x ∷ xs) l = drop_whole i xs (omega arith)

-- a copy of what stands there
pub copy_at : {X : Type 0} (xs : List X) (i : ℕ) (x y : X) → y ≡ x → x ≡ get_or xs i x → y ≡ get_or xs i y
copy_at xs i x y e h = e ∙ h ∙ ap (λ z. get_or xs i z) (sym e)

-- ---- sets

pub set_none : (P : Path → Type 0) → ((w : Path) → ¬ P w) → Holds P []
unfolding IsStrictlySortedBy
set_none P n = record { ascends = tt; few = omega arith; exact = λ w. (λ i. In-nil i, λ p. absurd (n w p)) }

pub is_set : (P : Path → Type 0) {xs : List Path} → Holds P xs → IsSet xs
is_set P h = record { ascends = h.ascends; few = h.few }

pub set_itself : {xs : List Path} → IsSet xs → Holds (λ w. In w xs) xs
set_itself s = record { ascends = s.ascends; few = s.few; exact = λ w. (λ i. i, λ i. i) }

pub set_same : (P Q : Path → Type 0) {xs : List Path} → ((w : Path) → P w → Q w) → ((w : Path) → Q w → P w) → Holds P xs → Holds Q xs
set_same P Q f g h = record { ascends = h.ascends; few = h.few; exact = λ w. (λ i. f w ((h.exact w).0 i), λ q. (h.exact w).1 (g w q)) }

pub set_there : (p : Path) {xs : List Path} → IsSet xs → In p xs → Holds (λ w. In w xs ⊎ (w ≡ p)) xs
set_there p s i = record { ascends = s.ascends; few = s.few; exact = λ w. (λ j. inl j, λ j. elim j [ inl a ↦ a | inr e ↦ rw e i ]) }

pub set_added : (p : Path) (xs : List Path) (i : ℕ) → IsPlace xs p i → length xs < 256 → Holds (λ w. In w xs ⊎ (w ≡ p)) (insert xs i p)
set_added p xs i h l = record {
  ascends = h.ascends;
  few = omega (arith, length-insert xs i p);
  exact = λ w. (In_insert_cases xs i p w, λ j. elim j [ inl a ↦ In_insert_still xs i p w a | inr e ↦ rw e (In-append_right (take i xs) here) ]);
}

pub set_full : (p : Path) (xs : List Path) (i : ℕ) → IsSet xs → IsPlace xs p i → 256 ≤ length xs → MoreThan 256 (λ w. In w xs ⊎ (w ≡ p))
set_full p xs i s h l = record {
  strings = p ∷ xs;
  different = more h.absent (once_of xs s.ascends);
  enough = omega arith;
  each = λ w i. elim (In-cons_cases i) [ inl e ↦ inr e | inr a ↦ inl a ];
}

-- one addition after the other
pub set_onto : (P A : Path → Type 0) {xs ys : List Path} → Holds P xs → Holds (λ w. In w xs ⊎ A w) ys → Holds (λ w. P w ⊎ A w) ys
set_onto P A {xs} h k = set_same (λ w. In w xs ⊎ A w) (λ w. P w ⊎ A w)
    (λ w j. elim j [ inl a ↦ inl ((h.exact w).0 a) | inr b ↦ inr b ])
    (λ w j. elim j [ inl a ↦ inl ((h.exact w).1 a) | inr b ↦ inr b ])
    k

-- ---- too many strings

pub many_same : (P Q : Path → Type 0) → ((w : Path) → P w → Q w) → MoreThan 256 P → MoreThan 256 Q
many_same P Q f m = record { strings = m.strings; different = m.different; enough = m.enough; each = λ w i. f w (m.each w i) }

pub over_same : (P Q : Path → Type 0) → ((w : Path) → P w → Q w) → (fault : PathFault) → Overfull P fault → Overfull Q fault
over_same P Q f TooManyPaths m = many_same P Q f m
over_same P Q f NoPath m = m
over_same P Q f Memory m = tt

pub over_onto : (P A : Path → Type 0) {xs : List Path} (fault : PathFault) → Holds P xs → Overfull (λ w. In w xs ⊎ A w) fault → Overfull (λ w. P w ⊎ A w) fault
over_onto P A {xs} fault h m = over_same (λ w. In w xs ⊎ A w) (λ w. P w ⊎ A w) (λ w j. elim j [ inl a ↦ inl ((h.exact w).0 a) | inr b ↦ inr b ]) fault m

Once-map : {X Y : Type 0} (f : X → Y) → ((x y : X) → f x ≡ f y → x ≡ y) → (xs : List X) → Once xs → Once (map f xs)
Once-map f inj [] o = none
Once-map f inj (x ∷ xs) (more n o) = more (λ i. let r = In_from_map f xs i in n (rw (inj x r.0 (sym r.2)) r.1)) (Once-map f inj xs o)

length-map : {X Y : Type 0} (f : X → Y) (xs : List X) → length (map f xs) ≡ length xs
length-map f [] = refl
length-map f (x ∷ xs) = ap suc (length-map f xs)

pub over_map : (P Q : Path → Type 0) (f : Path → Path) → ((x y : Path) → f x ≡ f y → x ≡ y) → ((w : Path) → P w → Q (f w)) → (fault : PathFault) → Overfull P fault → Overfull Q fault
over_map P Q f inj to TooManyPaths m = record {
  strings = map f m.strings;
  different = Once-map f inj m.strings m.different;
  enough = omega (arith, m.enough, length-map f m.strings);
  each = λ w i. let r = In_from_map f m.strings i in rw (sym r.2) (to r.0 (m.each r.0 r.1));
}
over_map P Q f inj to NoPath m = m
over_map P Q f inj to Memory m = tt

-- ---- turns of the loops

In_more : {X : Type 0} {x : X} (xs : List X) (i : ℕ) (y : X) → i < length xs → y ≡ get_or xs i y → In x (take (i + 1) xs) → In x (take i xs) ⊎ (x ≡ y)
In_more xs i y l e h = elim (In-take_more xs i y l h) [ inl a ↦ inl a | inr b ↦ inr (b ∙ sym e) ]

In_still : {X : Type 0} {x : X} (xs : List X) (i : ℕ) (y : X) → i < length xs → In x (take i xs) → In x (take (i + 1) xs)
In_still xs i y l h = rw (take_more xs i y l) (In-append_left (get_or xs i y ∷ []) h)

In_now : {X : Type 0} (xs : List X) (i : ℕ) (y : X) → i < length xs → y ≡ get_or xs i y → In y (take (i + 1) xs)
In_now {X} xs i y l e = rw (take_more xs i y l) (subst (λ (z : X). In y (take i xs ++ z ∷ [])) e (In-push (take i xs) y))

pub In_at : {X : Type 0} (xs : List X) (i : ℕ) (y : X) → i < length xs → y ≡ get_or xs i y → In y xs
In_at xs i y l e = In-take (i + 1) xs (In_now xs i y l e)

pub all_step : (init xs : List Path) (i : ℕ) (x : Path) {ys zs : List Path} → i < length xs → x ≡ get_or xs i x
    → Holds (λ w. In w init ⊎ In w (take i xs)) ys → Holds (λ w. In w ys ⊎ (w ≡ x)) zs → Holds (λ w. In w init ⊎ In w (take (i + 1) xs)) zs
all_step init xs i x l e h k =
    set_same (λ w. (In w init ⊎ In w (take i xs)) ⊎ (w ≡ x)) (λ w. In w init ⊎ In w (take (i + 1) xs))
    (λ w j. elim j [ inl a ↦ elim a [ inl b ↦ inl b | inr b ↦ inr (In_still xs i x l b) ] | inr b ↦ inr (rw b (In_now xs i x l e)) ])
    (λ w j. elim j [ inl a ↦ inl (inl a) | inr b ↦ elim (In_more xs i x l e b) [ inl d ↦ inl (inr d) | inr d ↦ inr d ] ])
    (set_onto (λ w. In w init ⊎ In w (take i xs)) (λ w. w ≡ x) h k)

pub all_stop : (init xs : List Path) (i : ℕ) (x : Path) {ys : List Path} (fault : PathFault) → i < length xs → x ≡ get_or xs i x
    → Holds (λ w. In w init ⊎ In w (take i xs)) ys → Overfull (λ w. In w ys ⊎ (w ≡ x)) fault → Overfull (λ w. In w init ⊎ In w xs) fault
all_stop init xs i x fault l e h k =
    over_same (λ w. (In w init ⊎ In w (take i xs)) ⊎ (w ≡ x)) (λ w. In w init ⊎ In w xs)
    (λ w j. elim j [ inl a ↦ elim a [ inl b ↦ inl b | inr b ↦ inr (In-take i xs b) ] | inr b ↦ inr (rw b (In_at xs i x l e)) ])
    fault (over_onto (λ w. In w init ⊎ In w (take i xs)) (λ w. w ≡ x) fault h k)

-- ---- joins

join_of : {xs ys : List Path} {n : ℕ} {w : Path} (u v : Path) → w ≡ u ++ v → In u xs → In v ys → length w ≤ n → IsJoin xs ys n w
join_of u v e i j l = record { joins = record { front = u; back = v; is = e; first = i; second = j }; short = l }

join_pair_in : {xs ys : List Path} {n : ℕ} {w u v : Path} → In u xs → In v ys → IsPair u v n w → IsJoin xs ys n w
join_pair_in {u = u} {v = v} i j p = join_of u v p.is i j p.short

pub backs_none : (init : List Path) (u : Path) (n : ℕ) → IsSet init → Holds (λ w. In w init ⊎ IsJoin (u ∷ []) [] n w) init
backs_none init u n s =
    set_same (λ w. In w init) (λ w. In w init ⊎ IsJoin (u ∷ []) [] n w) (λ w i. inl i) (λ w j. elim j [ inl a ↦ a | inr b ↦ In-nil b.joins.second ]) (set_itself s)

pub backs_step : (init vs : List Path) (u : Path) (n i : ℕ) (v : Path) {ys zs : List Path} → i < length vs → v ≡ get_or vs i v
    → Holds (λ w. In w init ⊎ IsJoin (u ∷ []) (take i vs) n w) ys → Holds (λ w. In w ys ⊎ IsPair u v n w) zs
    → Holds (λ w. In w init ⊎ IsJoin (u ∷ []) (take (i + 1) vs) n w) zs
backs_step init vs u n i v l e h k =
    set_same (λ w. (In w init ⊎ IsJoin (u ∷ []) (take i vs) n w) ⊎ IsPair u v n w) (λ w. In w init ⊎ IsJoin (u ∷ []) (take (i + 1) vs) n w)
    (λ w j. elim j [
      | inl a ↦ elim a [ inl b ↦ inl b | inr b ↦ inr (join_of b.joins.front b.joins.back b.joins.is b.joins.first (In_still vs i v l b.joins.second) b.short) ]
      | inr b ↦ inr (join_pair_in here (In_now vs i v l e) b)
    ])
    (λ w j. elim j [
      | inl a ↦ inl (inl a)
      | inr b ↦ elim (In_more vs i v l e b.joins.second) [
        | inl d ↦ inl (inr (join_of b.joins.front b.joins.back b.joins.is b.joins.first d b.short))
        | inr d ↦ inr (record { is = b.joins.is ∙ ap (λ z. z ++ b.joins.back) (In-one b.joins.first) ∙ ap (λ z. u ++ z) d; short = b.short })
      ]
    ])
    (set_onto (λ w. In w init ⊎ IsJoin (u ∷ []) (take i vs) n w) (λ w. IsPair u v n w) h k)

pub backs_stop : (init vs : List Path) (u : Path) (n i : ℕ) (v : Path) {ys : List Path} (fault : PathFault) → i < length vs → v ≡ get_or vs i v
    → Holds (λ w. In w init ⊎ IsJoin (u ∷ []) (take i vs) n w) ys → Overfull (λ w. In w ys ⊎ IsPair u v n w) fault
    → Overfull (λ w. In w init ⊎ IsJoin (u ∷ []) vs n w) fault
backs_stop init vs u n i v fault l e h k =
    over_same (λ w. (In w init ⊎ IsJoin (u ∷ []) (take i vs) n w) ⊎ IsPair u v n w) (λ w. In w init ⊎ IsJoin (u ∷ []) vs n w)
    (λ w j. elim j [
      | inl a ↦ elim a [ inl b ↦ inl b | inr b ↦ inr (join_of b.joins.front b.joins.back b.joins.is b.joins.first (In-take i vs b.joins.second) b.short) ]
      | inr b ↦ inr (join_pair_in here (In_at vs i v l e) b)
    ])
    fault (over_onto (λ w. In w init ⊎ IsJoin (u ∷ []) (take i vs) n w) (λ w. IsPair u v n w) fault h k)

pub fronts_none : (vs : List Path) (n : ℕ) → Holds (IsJoin [] vs n) []
fronts_none vs n = set_none (IsJoin [] vs n) (λ w j. In-nil j.joins.first)

pub fronts_step : (us vs : List Path) (n i : ℕ) (u : Path) {ys zs : List Path} → i < length us → u ≡ get_or us i u
    → Holds (IsJoin (take i us) vs n) ys → Holds (λ w. In w ys ⊎ IsJoin (u ∷ []) vs n w) zs → Holds (IsJoin (take (i + 1) us) vs n) zs
fronts_step us vs n i u l e h k =
    set_same (λ w. IsJoin (take i us) vs n w ⊎ IsJoin (u ∷ []) vs n w) (IsJoin (take (i + 1) us) vs n)
    (λ w j. elim j [
      | inl b ↦ join_of b.joins.front b.joins.back b.joins.is (In_still us i u l b.joins.first) b.joins.second b.short
      | inr b ↦ join_of b.joins.front b.joins.back b.joins.is (rw (In-one b.joins.first) (In_now us i u l e)) b.joins.second b.short
    ])
    (λ w b. elim (In_more us i u l e b.joins.first) [
      | inl d ↦ inl (join_of b.joins.front b.joins.back b.joins.is d b.joins.second b.short)
      | inr d ↦ inr (join_of b.joins.front b.joins.back b.joins.is (rw d here) b.joins.second b.short)
    ])
    (set_onto (IsJoin (take i us) vs n) (λ w. IsJoin (u ∷ []) vs n w) h k)

pub fronts_stop : (us vs : List Path) (n i : ℕ) (u : Path) {ys : List Path} (fault : PathFault) → i < length us → u ≡ get_or us i u
    → Holds (IsJoin (take i us) vs n) ys → Overfull (λ w. In w ys ⊎ IsJoin (u ∷ []) vs n w) fault → Overfull (IsJoin us vs n) fault
fronts_stop us vs n i u fault l e h k =
    over_same (λ w. IsJoin (take i us) vs n w ⊎ IsJoin (u ∷ []) vs n w) (IsJoin us vs n)
    (λ w j. elim j [
      | inl b ↦ join_of b.joins.front b.joins.back b.joins.is (In-take i us b.joins.first) b.joins.second b.short
      | inr b ↦ join_of b.joins.front b.joins.back b.joins.is (rw (In-one b.joins.first) (In_at us i u l e)) b.joins.second b.short
    ])
    fault (over_onto (IsJoin (take i us) vs n) (λ w. IsJoin (u ∷ []) vs n w) fault h k)

-- a pair that is too long adds nothing
pub pair_long : (u v : Path) (n : ℕ) {xs : List Path} → IsSet xs → n < length u + length v → Holds (λ w. In w xs ⊎ IsPair u v n w) xs
pair_long u v n s l =
    set_same (λ w. In w _) (λ w. In w _ ⊎ IsPair u v n w) (λ w i. inl i)
    (λ w j. elim j [ inl a ↦ a | inr b ↦ absurd (omega (arith, b.short, ap length b.is, length-append u v)) ])
    (set_itself s)

pair_is : (u v : Path) (n : ℕ) (p w : Path) → p ≡ u ++ v → length u + length v ≤ n → w ≡ p → IsPair u v n w
pair_is u v n p w e l f = record { is = f ∙ e; short = omega (arith, ap length f, ap length e, length-append u v) }

pub pair_step : (u v : Path) (n : ℕ) (p : Path) {xs zs : List Path} → p ≡ u ++ v → length u + length v ≤ n
    → Holds (λ w. In w xs ⊎ (w ≡ p)) zs → Holds (λ w. In w xs ⊎ IsPair u v n w) zs
pair_step u v n p {xs} e l h =
    set_same (λ w. In w xs ⊎ (w ≡ p)) (λ w. In w xs ⊎ IsPair u v n w)
    (λ w j. elim j [ inl a ↦ inl a | inr b ↦ inr (pair_is u v n p w e l b) ])
    (λ w j. elim j [ inl a ↦ inl a | inr b ↦ inr (b.is ∙ sym e) ])
    h

pub pair_stop : (u v : Path) (n : ℕ) (p : Path) (xs : List Path) (fault : PathFault) → p ≡ u ++ v → length u + length v ≤ n
    → Overfull (λ w. In w xs ⊎ (w ≡ p)) fault → Overfull (λ w. In w xs ⊎ IsPair u v n w) fault
pair_stop u v n p xs fault e l h =
    over_same (λ w. In w xs ⊎ (w ≡ p)) (λ w. In w xs ⊎ IsPair u v n w)
    (λ w j. elim j [ inl a ↦ inl a | inr b ↦ inr (pair_is u v n p w e l b) ])
    fault h
