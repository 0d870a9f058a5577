-- What joining two classes does, and when the classes are complete.
use Rattle.std.proofs.Common.{◌≡◌, ℕ, zero, suc, ◌+◌, ◌<◌, ◌≤◌, Bool, true, false, cond, List, [], ◌∷◌, ◌++◌, map, Some, length, get_or, take, refl, sym, ap, subst, ◌∙◌, arith, inl, inr, ◌⊎◌}
use Rattle.std.specs.Prelude.{slice_get, ◌==◌, ◌≢◌, ◌||◌}
use Rattle.std.proofs.lemmas.Bool.{cases_Bool}
use Rattle.std.proofs.lemmas.Bool.Decides.{nat_tests}
use Rattle.std.proofs.lemmas.Option.{same_Some, slice_get-get_or, slice_get_within}
use Rattle.lfg_model.specs.Lists.{In, here, later}
use Rattle.lfg_model.specs.Equal.{itself, stated, turned, joined, along}
use Rattle.lfg_model.specs.Terms.{Name}
use Rattle.lfg_model.proofs.ListLaws.{In-at, In-map, In_from_map, In-nil, In-take_more, In-cons_cases}
use Rattle.lfg_solve.specs.declared.classes.Arc.{Arc}
use Rattle.lfg_solve.specs.Links.{relabelled}
use Rattle.lfg_solve.specs.Divides.{numbers, ends, EqualNumbers, OneClass, by_label, AreLeast, Grows, Joins, IsDivision, HoldsGiven, Meets, MeetsAll, Divides}

pub get-map : (f : ℕ → ℕ) (xs : List ℕ) (i m : ℕ) → slice_get xs i ≡ Some m → slice_get (map f xs) i ≡ Some (f m)
get-map f [] i m h = cc
get-map f (x ∷ xs) zero m h = ap (λ y. Some (f y)) (same_Some x m h)
get-map f (x ∷ xs) (suc i) m h = get-map f xs i m h

pub get_from_map : (f : ℕ → ℕ) (xs : List ℕ) (i k : ℕ) → slice_get (map f xs) i ≡ Some k → (m : ℕ) × (slice_get xs i ≡ Some m) × (f m ≡ k)
get_from_map f [] i k h = cc
get_from_map f (x ∷ xs) zero k h = (x, refl, same_Some (f x) k h)
get_from_map f (x ∷ xs) (suc i) k h = get_from_map f xs i k h

-- ---- one class

one_label : (labels : List ℕ) (i k m : ℕ) → slice_get labels i ≡ Some k → slice_get labels i ≡ Some m → k ≡ m
one_label labels i k m h g = same_Some k m (sym h ∙ g)

pub OneClass-sym : {labels : List ℕ} {i j : ℕ} → OneClass labels i j → OneClass labels j i
OneClass-sym (by_label h g) = by_label g h

trans_at : (labels : List ℕ) (i j k m n : ℕ) → slice_get labels i ≡ Some m → slice_get labels j ≡ Some m → slice_get labels j ≡ Some n → slice_get labels k ≡ Some n → OneClass labels i k
trans_at labels i j k m n a b c d = by_label a (d ∙ ap (λ x. Some x) (one_label labels j n m c b))

pub OneClass-trans : {labels : List ℕ} {i j k : ℕ} → OneClass labels i j → OneClass labels j k → OneClass labels i k
OneClass-trans {labels} {i} {j} {k} (by_label {k = m} a b) (by_label {k = n} c d) = trans_at labels i j k m n a b c d

pub Grows-refl : (labels : List ℕ) → Grows labels labels
Grows-refl labels = record { each = λ i j h. h }

pub Grows-trans : {a b c : List ℕ} → Grows a b → Grows b c → Grows a c
Grows-trans g h = record { each = λ i j e. h.each i j (g.each i j e) }

-- ---- relabelling

relabelled_cases : (high low x : ℕ) → ((x ≡ high) × (relabelled high low x ≡ low)) ⊎ ((x ≢ high) × (relabelled high low x ≡ x))
relabelled_cases high low x = elim (cases_Bool (x == high)) [
  | inl t ↦ inl (grind (arith, nat_tests), ap (λ b. cond b low x) t)
  | inr f ↦ inr (grind (arith, nat_tests), ap (λ b. cond b low x) f)
]

abbrev Merged : ℕ → ℕ → ℕ → ℕ → Type 0
Merged high low x y = (x ≡ y) ⊎ (((x ≡ high) × (y ≡ low)) ⊎ ((x ≡ low) × (y ≡ high)))

relabelled_same : (high low x y : ℕ) → relabelled high low x ≡ relabelled high low y → Merged high low x y
relabelled_same high low x y e = elim (relabelled_cases high low x) [
  | inl a ↦ elim (relabelled_cases high low y) [
    | inl b ↦ inl (a.0 ∙ sym b.0)
    | inr b ↦ inr (inl (a.0, sym b.1 ∙ sym e ∙ a.1))
  ]
  | inr a ↦ elim (relabelled_cases high low y) [
    | inl b ↦ inr (inr (sym a.1 ∙ e ∙ b.1, b.0))
    | inr b ↦ inl (sym a.1 ∙ e ∙ b.1)
  ]
]

-- the labels of a and b are the two that become one
abbrev pub Two : List ℕ → ℕ → ℕ → ℕ → ℕ → Type 0
Two labels a b high low =
    ((slice_get labels a ≡ Some high) × (slice_get labels b ≡ Some low))
    ⊎ ((slice_get labels a ≡ Some low) × (slice_get labels b ≡ Some high))

module _ (labels : List ℕ) (a b high low : ℕ) (less : low < high) (two : Two labels a b high low) where
  new : List ℕ
  new = map (relabelled high low) labels

  grown_by : (i j : ℕ) → OneClass labels i j → OneClass new i j
  unfolding new
  grown_by i j (by_label {k} h g) = by_label (get-map (relabelled high low) labels i k h) (get-map (relabelled high low) labels j k g)

  high_becomes : relabelled high low high ≡ low
  high_becomes = elim (relabelled_cases high low high) [ inl e ↦ e.1 | inr e ↦ absurd (e.0 refl) ]

  low_stays : relabelled high low low ≡ low
  low_stays = elim (relabelled_cases high low low) [ inl e ↦ e.1 | inr e ↦ e.1 ]

  at_high : (i : ℕ) → slice_get labels i ≡ Some high → slice_get new i ≡ Some low
  unfolding new
  at_high i h = get-map (relabelled high low) labels i high h ∙ ap (λ x. Some x) high_becomes

  at_low : (i : ℕ) → slice_get labels i ≡ Some low → slice_get new i ≡ Some low
  unfolding new
  at_low i h = get-map (relabelled high low) labels i low h ∙ ap (λ x. Some x) low_stays

  both_by : OneClass new a b
  both_by = elim two [
    | inl t ↦ by_label (at_high a t.0) (at_low b t.1)
    | inr t ↦ by_label (at_low a t.0) (at_high b t.1)
  ]

  Alone : ℕ → ℕ → Type 0
  Alone i j = OneClass labels i j ⊎ ((OneClass labels i a × OneClass labels b j) ⊎ (OneClass labels i b × OneClass labels a j))

  alone_at : (i j x y : ℕ) → slice_get labels i ≡ Some x → slice_get labels j ≡ Some y → Merged high low x y → Alone i j
  unfolding Alone
  alone_at i j x y h g (inl e) = inl (by_label h (g ∙ ap (λ z. Some z) (sym e)))
  alone_at i j x y h g (inr (inl e)) =
      let at_i : slice_get labels i ≡ Some high = h ∙ ap (λ z. Some z) e.0 in
      let at_j : slice_get labels j ≡ Some low = g ∙ ap (λ z. Some z) e.1 in
      elim two [ inl t ↦ inr (inl (by_label at_i t.0, by_label t.1 at_j)) | inr t ↦ inr (inr (by_label at_i t.1, by_label t.0 at_j)) ]
  alone_at i j x y h g (inr (inr e)) =
      let at_i : slice_get labels i ≡ Some low = h ∙ ap (λ z. Some z) e.0 in
      let at_j : slice_get labels j ≡ Some high = g ∙ ap (λ z. Some z) e.1 in
      elim two [ inl t ↦ inr (inr (by_label at_i t.1, by_label t.0 at_j)) | inr t ↦ inr (inl (by_label at_i t.0, by_label t.1 at_j)) ]

  alone_by : (i j : ℕ) → OneClass new i j → Alone i j
  unfolding new
  alone_by i j (by_label {k} h g) =
      let x = get_from_map (relabelled high low) labels i k h in
      let y = get_from_map (relabelled high low) labels j k g in
      alone_at i j x.0 y.0 x.1 y.1 (relabelled_same high low x.0 y.0 (x.2 ∙ sym y.2))

  low_least : AreLeast labels → slice_get labels low ≡ Some low
  low_least l = elim two [ inl t ↦ (l.each b low t.1).1 | inr t ↦ (l.each a low t.0).1 ]

  least_by : AreLeast labels → AreLeast new
  unfolding new
  least_by l = record { each = λ i k h. go i k (get_from_map (relabelled high low) labels i k h) }
    where
      go : (i k : ℕ) → (m : ℕ) × (slice_get labels i ≡ Some m) × (relabelled high low m ≡ k) → (k ≤ i) × (slice_get new k ≡ Some k)
      go i k g = elim (relabelled_cases high low g.0) [
        | inl e ↦
            let is : low ≡ k = sym e.1 ∙ g.2 in
            let below = (l.each i g.0 g.1).0 in
            let at_most : k ≤ i = omega arith in
            (at_most, subst (λ (x : ℕ). slice_get new x ≡ Some x) is (at_low low (low_least l)))
        | inr e ↦
            let is : g.0 ≡ k = sym e.1 ∙ g.2 in
            let p = l.each i g.0 g.1 in
            let at_most : k ≤ i = omega (arith, p.0) in
            (at_most, subst (λ (x : ℕ). slice_get new x ≡ Some x) is (get-map (relabelled high low) labels g.0 g.0 p.1 ∙ ap (λ x. Some x) e.1))
      ]

  pub joins_by : Joins labels a b (map (relabelled high low) labels)
  unfolding new Alone
  joins_by = record { grown = record { each = grown_by }; both = both_by; alone = alone_by; least = least_by }

pub joins_high : (labels : List ℕ) (a b p q : ℕ) → slice_get labels a ≡ Some p → slice_get labels b ≡ Some q → q < p → Joins labels a b (map (relabelled p q) labels)
joins_high labels a b p q h g l = joins_by labels a b p q l (inl (h, g))

pub joins_low : (labels : List ℕ) (a b p q : ℕ) → slice_get labels a ≡ Some p → slice_get labels b ≡ Some q → p < q → Joins labels a b (map (relabelled q p) labels)
joins_low labels a b p q h g l = joins_by labels a b q p l (inr (h, g))

pub joins_same : (labels : List ℕ) (a b p : ℕ) → slice_get labels a ≡ Some p → slice_get labels b ≡ Some p → Joins labels a b labels
joins_same labels a b p h g = record { grown = Grows-refl labels; both = by_label h g; alone = λ i j o. inl o; least = λ l. l }

-- ---- divisions

module _ (count : ℕ) (given : List (ℕ × ℕ)) (arcs : List Arc) where
  Equal-turned : {i j : ℕ} → EqualNumbers count given arcs i j → EqualNumbers count given arcs j i
  Equal-turned (itself i) = itself i
  Equal-turned (stated i) = turned i
  Equal-turned (turned i) = stated i
  Equal-turned (joined a b) = joined (Equal-turned b) (Equal-turned a)
  Equal-turned (along e i j) = along (Equal-turned e) j i

  pub division_joined : (before after : List ℕ) (a b : ℕ) → IsDivision count given arcs before → EqualNumbers count given arcs a b → Joins before a b after → length after ≡ length before
      → IsDivision count given arcs after
  division_joined before after a b d e j l = record {
    covers = l ∙ d.covers;
    least = j.least d.least;
    forced = λ i k o. elim (j.alone i k o) [
      | inl s ↦ d.forced i k s
      | inr t ↦ elim t [
        | inl p ↦ joined (d.forced i a p.0) (joined e (d.forced b k p.1))
        | inr p ↦ joined (d.forced i b p.0) (joined (Equal-turned e) (d.forced a k p.1))
      ]
    ];
  }

  along_arcs : (arc other : Arc) → In arc arcs → In other arcs → arc.attribute ≡ other.attribute → EqualNumbers count given arcs arc.from other.from → EqualNumbers count given arcs arc.to other.to
  along_arcs arc other i j e h =
      let k : In (other.from, arc.attribute, other.to) (map ends arcs) = subst (λ (a : Name). In (other.from, a, other.to) (map ends arcs)) (sym e) (In-map ends j) in
      along h (In-map ends i) k

  pub division_along : (before after : List ℕ) (arc other : Arc) → In arc arcs → In other arcs → arc.attribute ≡ other.attribute → OneClass before arc.from other.from
      → IsDivision count given arcs before → Joins before arc.to other.to after → length after ≡ length before → IsDivision count given arcs after
  division_along before after arc other i j e o d n l = division_joined before after arc.to other.to d (along_arcs arc other i j e (d.forced arc.from other.from o)) n l

  pub In-numbers : (n i : ℕ) → In i (numbers n) → i < n
  In-numbers zero i h = In-nil h
  In-numbers (suc n) i h = elim (In-cons_cases h) [ inl e ↦ omega arith | inr l ↦ let r = In-numbers n i l in omega arith ]

  labelled : (labels : List ℕ) (i : ℕ) → i < length labels → OneClass labels i i
  labelled labels i l = let e = slice_get-get_or labels i 0 l in by_label e e

  met : (labels : List ℕ) → MeetsAll labels arcs arcs → (arc other : Arc) (x y t u : ℕ) (a : Name) → In arc arcs → In other arcs → ends arc ≡ (x, a, t) → ends other ≡ (y, a, u) → OneClass labels x y → OneClass labels t u
  met labels m arc other x y t u a i j e f o =
      let from : OneClass labels arc.from other.from = rw (ap (λ p. p.0) e, ap (λ p. p.0) f) o in
      let same : arc.attribute ≡ other.attribute = ap (λ p. p.1) e ∙ sym (ap (λ p. p.1) f) in
      let to : OneClass labels arc.to other.to = (m.each arc i).each other j from same in
      rw (← ap (λ p. p.2) e, ← ap (λ p. p.2) f) to

  pub complete : (labels : List ℕ) → length labels ≡ count → HoldsGiven given labels → MeetsAll labels arcs arcs → {i j : ℕ} → EqualNumbers count given arcs i j → OneClass labels i j
  complete labels l g m (itself {x} h) = labelled labels x (let b = In-numbers count x h in omega arith)
  complete labels l g m (stated {x} {y} h) = g.each x y h
  complete labels l g m (turned {x} {y} h) = OneClass-sym (g.each x y h)
  complete labels l g m (joined a b) = OneClass-trans (complete labels l g m a) (complete labels l g m b)
  complete labels l g m (along {x} {y} {t} {u} {a} e i j) =
      let r = In_from_map ends arcs i in
      let s = In_from_map ends arcs j in
      met labels m r.0 s.0 x y t u a r.1 s.1 r.2 s.2 (complete labels l g m e)

  pub divides : (labels : List ℕ) → IsDivision count given arcs labels → HoldsGiven given labels → MeetsAll labels arcs arcs → Divides count given arcs labels
  divides labels d g m = record { covers = d.covers; least = d.least; exact = λ i j. (d.forced i j, λ e. complete labels d.covers g m e) }

-- ---- steps of loops

pub HoldsGiven-none : (labels : List ℕ) → HoldsGiven [] labels
HoldsGiven-none labels = record { each = λ a b i. In-nil i }

pub HoldsGiven-grown : (given : List (ℕ × ℕ)) {old new : List ℕ} → HoldsGiven given old → Grows old new → HoldsGiven given new
HoldsGiven-grown given h g = record { each = λ a b i. g.each a b (h.each a b i) }

given_at : (labels : List ℕ) (a b : ℕ) (p : ℕ × ℕ) → (a, b) ≡ p → OneClass labels p.0 p.1 → OneClass labels a b
given_at labels a b p e o = rw (ap (λ q. q.0) e, ap (λ q. q.1) e) o

pub HoldsGiven-more : (given : List (ℕ × ℕ)) (k : ℕ) (d : ℕ × ℕ) (labels : List ℕ) → k < length given → HoldsGiven (take k given) labels → OneClass labels (get_or given k d).0 (get_or given k d).1
    → HoldsGiven (take (k + 1) given) labels
HoldsGiven-more given k d labels l h o = record {
  each = λ a b i. elim (In-take_more given k d l i) [ inl j ↦ h.each a b j | inr e ↦ given_at labels a b (get_or given k d) e o ];
}

pub Meets-none : (labels : List ℕ) (arc : Arc) → Meets labels arc []
Meets-none labels arc = record { each = λ other i o e. In-nil i }

Met : List ℕ → Arc → Arc → Type 0
Met labels arc other = OneClass labels arc.from other.from → arc.attribute ≡ other.attribute → OneClass labels arc.to other.to

pub Meets-more : (labels : List ℕ) (arc : Arc) (arcs : List Arc) (k : ℕ) (d : Arc) → k < length arcs → Meets labels arc (take k arcs)
    → (OneClass labels arc.from (get_or arcs k d).from → arc.attribute ≡ (get_or arcs k d).attribute → OneClass labels arc.to (get_or arcs k d).to) → Meets labels arc (take (k + 1) arcs)
unfolding Met
Meets-more labels arc arcs k d l h m = record {
  each = λ other i. elim (In-take_more arcs k d l i) [ inl j ↦ h.each other j | inr e ↦ subst (λ (o : Arc). Met labels arc o) (sym e) m ];
}

pub MeetsAll-none : (labels : List ℕ) (arcs : List Arc) → MeetsAll labels [] arcs
MeetsAll-none labels arcs = record { each = λ arc i. In-nil i }

pub MeetsAll-more : (labels : List ℕ) (front arcs : List Arc) (k : ℕ) (d : Arc) → k < length front → MeetsAll labels (take k front) arcs → Meets labels (get_or front k d) arcs
    → MeetsAll labels (take (k + 1) front) arcs
MeetsAll-more labels front arcs k d l h m = record {
  each = λ arc i. elim (In-take_more front k d l i) [ inl j ↦ h.each arc j | inr e ↦ subst (λ (a : Arc). Meets labels a arcs) (sym e) m ];
}

pub or_false : (a b : Bool) → (a || b) ≡ false → (a ≡ false) × (b ≡ false)
or_false true b h = cc
or_false false b h = (refl, h)

-- ---- numbers each in a class of its own

pub get_push : {X : Type 0} (xs : List X) (n : X) (i : ℕ) (k : X) → slice_get (xs ++ n ∷ []) i ≡ Some k → (slice_get xs i ≡ Some k) ⊎ ((i ≡ length xs) × (n ≡ k))
get_push [] n zero k h = inr (refl, same_Some n k h)
get_push [] n (suc i) k h = cc
get_push (x ∷ xs) n zero k h = inl h
get_push (x ∷ xs) n (suc i) k h = elim (get_push xs n i k h) [ inl e ↦ inl e | inr p ↦ inr (ap suc p.0, p.1) ]

-- each label so far is its own number
pub record AreOwn (labels : List ℕ) : Type 0 where
  pub each : (i k : ℕ) → slice_get labels i ≡ Some k → k ≡ i

pub AreOwn-none : AreOwn []
AreOwn-none = record { each = λ i k h. cc }

pub AreOwn-push : (labels : List ℕ) (n : ℕ) → length labels ≡ n → AreOwn labels → AreOwn (labels ++ n ∷ [])
AreOwn-push labels n l o = record { each = λ i k h. elim (get_push labels n i k h) [ inl e ↦ o.each i k e | inr p ↦ sym p.1 ∙ sym l ∙ sym p.0 ] }

pub numbers-In : (n i : ℕ) → i < n → In i (numbers n)
numbers-In zero i h = absurd (omega arith)
numbers-In (suc n) i h = elim (cases_Bool (i == n)) [
  | inl t ↦ let e : i ≡ n = grind (arith, nat_tests) in rw e here
  | inr f ↦ let less : i < n = grind (arith, nat_tests) in later (numbers-In n i less)
]

own_forced : (count : ℕ) (given : List (ℕ × ℕ)) (arcs : List Arc) (labels : List ℕ) → length labels ≡ count → AreOwn labels → {i j : ℕ} → OneClass labels i j → EqualNumbers count given arcs i j
own_forced count given arcs labels l o {i} {j} (by_label {k} h g) =
    let e : i ≡ j = sym (o.each i k h) ∙ o.each j k g in
    let b : i < count = omega (arith, slice_get_within labels i k h) in
    let t : EqualNumbers count given arcs i i = itself (numbers-In count i b) in
    subst (λ (x : ℕ). EqualNumbers count given arcs i x) e t

pub own_division : (count : ℕ) (given : List (ℕ × ℕ)) (arcs : List Arc) (labels : List ℕ) → length labels ≡ count → AreOwn labels → IsDivision count given arcs labels
own_division count given arcs labels l o = record {
  covers = l;
  least = record { each = λ i k h. (let e = o.each i k h in omega arith, let e = o.each i k h in subst (λ (x : ℕ). slice_get labels x ≡ Some k) (sym e) h) };
  forced = λ i j c. own_forced count given arcs labels l o c;
}

-- ---- what a loop reads

pub In-read : {X : Type 0} (xs : List X) (k : ℕ) (x : X) → k < length xs → x ≡ get_or xs k x → In x xs
In-read xs k x l e = subst (λ y. In y xs) (sym e) (In-at xs k x l)

pub Meets-read : (labels : List ℕ) (arc : Arc) (arcs : List Arc) (k : ℕ) (x : Arc) → k < length arcs → x ≡ get_or arcs k x → Meets labels arc (take k arcs)
    → (OneClass labels arc.from x.from → arc.attribute ≡ x.attribute → OneClass labels arc.to x.to) → Meets labels arc (take (k + 1) arcs)
unfolding Met
Meets-read labels arc arcs k x l e h m = Meets-more labels arc arcs k x l h (subst (λ (o : Arc). Met labels arc o) e m)

pub MeetsAll-read : (labels : List ℕ) (front arcs : List Arc) (k : ℕ) (x : Arc) → k < length front → x ≡ get_or front k x → MeetsAll labels (take k front) arcs → Meets labels x arcs
    → MeetsAll labels (take (k + 1) front) arcs
MeetsAll-read labels front arcs k x l e h m = MeetsAll-more labels front arcs k x l h (subst (λ (o : Arc). Meets labels o arcs) e m)

pub met_at : (before after : List ℕ) (arc other : Arc) → before ≡ after → (OneClass before arc.from other.from → arc.attribute ≡ other.attribute → OneClass before arc.to other.to)
    → OneClass after arc.from other.from → arc.attribute ≡ other.attribute → OneClass after arc.to other.to
unfolding Met
met_at before after arc other e m = subst (λ (l : List ℕ). Met l arc other) e m

pub or_true : (a b : Bool) → (a || b) ≡ true → (a ≡ true) ⊎ (b ≡ true)
or_true true b h = inl refl
or_true false b h = inr h
