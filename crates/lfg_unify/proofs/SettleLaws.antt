-- A table that has settled has all pairs that are equal.
use Rattle.std.proofs.Common.{◌≡◌, ◌≢◌, ℕ, zero, suc, ◌+◌, ◌*◌, ◌-◌, ◌<◌, ◌≤◌, Bool, true, false, ◌==◌, ◌⊎◌, inl, inr, List, [], ◌∷◌, length, get_or, take, sym, refl, ◌∙◌, ap, subst, arith, add-zero, add-suc}
use Rattle.std.specs.Prelude.{◌↔◌}
use Rattle.std.specs.Ordering.{eq_by_cmp}
use Rattle.std.proofs.lemmas.List.{take_all}
use Rattle.lfg_terms.specs.Order.{name_cmp}
use Rattle.lfg_model.specs.Lists.{In, here, later}
use Rattle.lfg_model.specs.Terms.{Name}
use Rattle.lfg_model.specs.Equal.{Equal, itself, stated, turned, joined, along}
use Rattle.lfg_model.specs.Rounds.{Round}
use Rattle.lfg_model.proofs.ListLaws.{In-at, In-nil, In-take_more}
use Rattle.lfg_model.proofs.RoundLaws.{Tells, name_tells, enough}
use Rattle.lfg_context.specs.Seen.{Set, Known}
use Rattle.lfg_context.specs.Sets.{Assignment, member, IsMade, AreMade}
use Rattle.lfg_context.proofs.Telling.{In-take_one, In-take_last}
use Rattle.lfg_unify.specs.Closures.{Row}
use Rattle.lfg_unify.specs.declared.system.System.{System}
use Rattle.lfg_unify.specs.Holding.{holding, Stated}
use Rattle.lfg_unify.specs.Rows.{Stands, Has, row_of, Widens}
use Rattle.lfg_unify.specs.Systems.{Arc, EqualIn, RoundIn, IsSystem, IsSound, IsGrowth, IsJoined, IsLinked, AreLinked, HasRounds, IsClosed, AddsThere, AddsGiven, HasEqual, Solves}
use Rattle.lfg_unify.proofs.SweepLaws.{In-holding, holding_In, length-holding, growth_refl, growth_trans, link_later}

-- ---- rounds

-- what linked arcs give, by what holds at the assignment
pub links : (s : System) (a : Assignment) (old new : List Row) (x y : ℕ) (n : Name) (t u : ℕ) → AreLinked s.arcs.items s.arcs.items old new → Has old a x y
    → In (x, n, t) (holding s.arcs.items a) → In (y, n, u) (holding s.arcs.items a) → Has new a t u
links s a old new x y n t u l h i j =
    let p = holding_In s.arcs.items a (x, n, t) i in
    let q = holding_In s.arcs.items a (y, n, u) j in
    l.each a ((x, n, t), p.0) ((y, n, u), q.0) p.1 q.1 (record { name = refl; first_holds = p.2; second_holds = q.2; sources = h })

pub one_round : (s : System) (n : ℕ) (old new : List Row) → ((a : Assignment) (i j : ℕ) → Has old a i j → Has new a i j) → IsJoined old new → AreLinked s.arcs.items s.arcs.items old new
    → HasRounds s n old → HasRounds s (n + 1) new
one_round s n old new keeps jo li r = let e : suc n ≡ n + 1 = omega arith in subst (λ (m : ℕ). HasRounds s m new) e next
  where
    next : HasRounds s (suc n) new
    next = record {
      each = λ a i j h. elim h [
        | inl k ↦ keeps a i j (r.each a i j k)
        | inr m ↦ elim m [
          | inl p ↦ jo.each a i p.0 j (r.each a i p.0 p.1) (r.each a p.0 j p.2)
          | inr p ↦ links s a old new p.0 p.1 p.2 i j li (r.each a p.0 p.1 p.3) p.4 p.5
        ]
      ];
    }

-- a table to which the rules add nothing
pub closed_from : (s : System) (old new : List Row) → new ≡ old → IsJoined old new → AreLinked s.arcs.items s.arcs.items old new → IsClosed s new
closed_from s old new e jo li = record {
  joined = subst (λ (r : List Row). IsJoined r new) (sym e) jo;
  linked = subst (λ (r : List Row). AreLinked s.arcs.items s.arcs.items r new) (sym e) li;
}

pub closed_equal : (s : System) (rows : List Row) → HasRounds s 0 rows → IsClosed s rows → HasEqual s rows
closed_equal s rows r c = record { each = λ a i j e. go a i j e }
  where
    go : (a : Assignment) (i j : ℕ) → EqualIn s a i j → Has rows a i j
    go a i j (itself h) = r.each a i j (inl (h, refl))
    go a i j (stated h) = r.each a i j (inr (inl h))
    go a i j (turned h) = r.each a i j (inr (inr h))
    go a i j (joined {y} d e) = c.joined.each a i y j (go a i y d) (go a y j e)
    go a i j (along {x} {y} {a = n} d h k) = links s a rows rows x y n i j c.linked (go a x y d) h k

mul_mono : (m n k : ℕ) → m ≤ n → m * k ≤ n * k
mul_mono zero n k h = omega arith
mul_mono (suc m) zero k h = absurd (omega arith)
mul_mono (suc m) (suc n) k h = let r = mul_mono m n k (omega arith) in omega (arith, r)

square_mono : (m n : ℕ) → m ≤ n → m * m ≤ n * n
square_mono zero n h = omega arith
square_mono (suc m) zero h = absurd (omega arith)
square_mono (suc m) (suc n) h = let r = square_mono m n (omega arith) in omega (arith, r)

round_rises : (s : System) (a : Assignment) (n m : ℕ) (i j : ℕ) → RoundIn s a n i j → RoundIn s a (n + m) i j
round_rises s a n zero i j r = let e : n ≡ n + 0 = omega arith in subst (λ (k : ℕ). RoundIn s a k i j) e r
round_rises s a n (suc m) i j r =
    let e : suc (n + m) ≡ n + suc m = omega arith in
    let h : RoundIn s a (suc (n + m)) i j = inl (round_rises s a n m i j r) in
    subst (λ (k : ℕ). RoundIn s a k i j) e h

nat_tells : Tells {X = ℕ} (λ x y. x == y)
nat_tells = record { itself = λ x. grind arith; told = λ x y e. grind arith }

pub rounds_equal : (s : System) (places count : ℕ) (rows : List Row) → IsSystem places s → length s.there.items ≡ count → HasRounds s (count * count) rows → HasEqual s rows
rounds_equal s places count rows sys len r = record {
  each = λ a i j e.
      let m = length (holding s.there.items a) in
      let k : RoundIn s a (m * m) i j = enough (λ x y. x == y) (eq_by_cmp name_cmp) nat_tells name_tells (holding s.there.items a) (holding s.given.items a) (holding s.arcs.items a) (sys.between a) e in
      let l : m * m ≤ count * count = square_mono m count (omega (arith, length-holding s.there.items a, len)) in
      let e : m * m + (count * count - m * m) ≡ count * count = omega (arith, l) in
      r.each a i j (subst (λ (n : ℕ). RoundIn s a n i j) e (round_rises s a (m * m) (count * count - m * m) i j k));
}

pub more_rounds : (s : System) (turn count : ℕ) (rows : List Row) → HasRounds s (turn * count + count) rows → HasRounds s ((turn + 1) * count) rows
more_rounds s turn count rows r = let e : turn * count + count ≡ (turn + 1) * count = omega arith in subst (λ (n : ℕ). HasRounds s n rows) e r

pub rounds_kept : (s : System) (n : ℕ) (old new : List Row) → ((a : Assignment) (i j : ℕ) → Has old a i j → Has new a i j) → HasRounds s n old → HasRounds s n new
rounds_kept s n old new keeps r = record { each = λ a i j h. keeps a i j (r.each a i j h) }

pub linked_before : (arcs : List Arc) (old now new : List Row) → ((a : Assignment) (i j : ℕ) → Has old a i j → Has now a i j) → AreLinked arcs arcs now new → AreLinked arcs arcs old new
linked_before arcs old now new keeps l = record { each = λ a p q i j m. l.each a p q i j (link_later p q old now a keeps m) }

pub joined_after : (old now new : List Row) → ((a : Assignment) (i j : ℕ) → Has now a i j → Has new a i j) → IsJoined old now → IsJoined old new
joined_after old now new keeps j = record { each = λ a i k y h l. keeps a i y (j.each a i k y h l) }

-- ---- what is stated

stated_one : {X : Type 0} (xs : List (X × Set)) (n : ℕ) (d : X × Set) (a : Assignment) (x : X) → n < length xs → Stated (take n xs) a x → Stated (take (n + 1) xs) a x
stated_one xs n d a x h s = record { set = s.set; listed = In-take_one xs n d h s.listed; holds = s.holds }

stated_last : {X : Type 0} (xs : List (X × Set)) (n : ℕ) (d : X × Set) (a : Assignment) (x : X) → n < length xs → d ≡ get_or xs n d → x ≡ d.0 → member d.1 a ≡ true → Stated (take (n + 1) xs) a x
stated_last {X} xs n d a x h e f m = record {
  set = d.1;
  listed = (let P : X → Type 0 = λ v. In (v, d.1) (take (n + 1) xs) in let Q : (X × Set) → Type 0 = λ v. In v (take (n + 1) xs) in subst P (sym f) (subst Q (sym e) (In-take_last xs n d h)));
  holds = m;
}

stated_more : {X : Type 0} (xs : List (X × Set)) (n : ℕ) (d : X × Set) (a : Assignment) (x : X) → n < length xs → d ≡ get_or xs n d → Stated (take (n + 1) xs) a x → Stated (take n xs) a x ⊎ ((x ≡ d.0) × (member d.1 a ≡ true))
stated_more {X} xs n d a x h e s = elim (In-take_more xs n d h s.listed) [
  | inl i ↦ inl (record { set = s.set; listed = i; holds = s.holds })
  | inr f ↦ (let g : ◌≡◌ {A = X × Set} (x, s.set) d = f ∙ sym e in inr (ap (λ r. r.0) g, sym (ap (λ r. member r.1 a) g) ∙ s.holds))
]

pub stated_holding : {X : Type 0} (xs : List (X × Set)) (a : Assignment) (x : X) → Stated xs a x → In x (holding xs a)
stated_holding xs a x s = In-holding xs a x s.set s.listed s.holds

pub holding_stated : {X : Type 0} (xs : List (X × Set)) (a : Assignment) (x : X) → In x (holding xs a) → Stated xs a x
holding_stated xs a x h = let r = holding_In xs a x h in record { set = r.0; listed = r.1; holds = r.2 }

nat_cases : (m n : ℕ) → (m ≡ n) ⊎ (m ≢ n)
nat_cases m n = grind arith

-- one pair more
pub pair_cases : (old new : List Row) (i j : ℕ) (z : Set) (a : Assignment) (x y : ℕ) → ((x : ℕ) → x ≢ i → row_of new x ≡ row_of old x) → Widens (row_of old i) j z (row_of new i)
    → Has new a x y ↔ (Has old a x y ⊎ ((x ≡ i) × (y ≡ j) × (member z a ≡ true)))
pair_cases old new i j z a x y others w = elim (nat_cases x i) [
  | inl e ↦ (
    (λ h. elim ((w.each a y).0 (subst (λ (n : ℕ). Has new a n y) e h)) [
      | inl s ↦ inl (subst (λ (n : ℕ). Has old a n y) (sym e) s)
      | inr p ↦ inr (e, p.0, p.1)
    ]),
    (λ h. elim h [
      | inl s ↦ subst (λ (n : ℕ). Has new a n y) (sym e) ((w.each a y).1 (inl (subst (λ (n : ℕ). Has old a n y) e s)))
      | inr p ↦ subst (λ (n : ℕ). Has new a n y) (sym e) ((w.each a y).1 (inr (p.1, p.2)))
    ]),
  )
  | inr n ↦ (
    (λ h. inl (subst (λ (r : Row). Stands r a y) (others x n) h)),
    (λ h. elim h [
      | inl s ↦ subst (λ (r : Row). Stands r a y) (sym (others x n)) s
      | inr p ↦ absurd (n p.0)
    ]),
  )
]

pub there_none : (rows : List Row) → AddsThere [] rows rows
there_none rows = record { each = λ a x y. ((λ h. inl h), (λ h. elim h [ inl s ↦ s | inr p ↦ In-nil p.1.listed ])) }

pub there_more : (there : List (ℕ × Set)) (n : ℕ) (d : ℕ × Set) (old now new : List Row) → n < length there → d ≡ get_or there n d
    → ((x : ℕ) → x ≢ d.0 → row_of new x ≡ row_of now x) → Widens (row_of now d.0) d.0 d.1 (row_of new d.0) → AddsThere (take n there) old now → AddsThere (take (n + 1) there) old new
there_more there n d old now new h e others w t = record {
  each = λ a x y. let p = pair_cases now new d.0 d.0 d.1 a x y others w in (
    (λ k. elim (p.0 k) [
      | inl s ↦ elim ((t.each a x y).0 s) [ inl o ↦ inl o | inr q ↦ inr (q.0, stated_one there n d a x h q.1) ]
      | inr q ↦ inr (q.0 ∙ sym q.1, stated_last there n d a x h e q.0 q.2)
    ]),
    (λ k. elim k [
      | inl o ↦ p.1 (inl ((t.each a x y).1 (inl o)))
      | inr q ↦ elim (stated_more there n d a x h e q.1) [
        | inl s ↦ p.1 (inl ((t.each a x y).1 (inr (q.0, s))))
        | inr r ↦ p.1 (inr (r.0, sym q.0 ∙ r.0, r.1))
      ]
    ]),
  );
}

pub there_all : (there : List (ℕ × Set)) (n : ℕ) (old new : List Row) → length there ≤ n → AddsThere (take n there) old new → AddsThere there old new
there_all there n old new h t = subst (λ (xs : List (ℕ × Set)). AddsThere xs old new) (take_all n there h) t

pub given_none : (rows : List Row) → AddsGiven [] rows rows
given_none rows = record { each = λ a x y. ((λ h. inl h), (λ h. elim h [ inl s ↦ s | inr p ↦ elim p [ inl q ↦ In-nil q.listed | inr q ↦ In-nil q.listed ] ])) }

-- the pair (x, y) is the pair d
pair_is : (x y : ℕ) (d : ℕ × ℕ) → x ≡ d.0 → y ≡ d.1 → ◌≡◌ {A = ℕ × ℕ} (x, y) d
pair_is x y d e f = λ i. (e i, f i)

pub given_more : (given : List ((ℕ × ℕ) × Set)) (n : ℕ) (d : (ℕ × ℕ) × Set) (old now half new : List Row) → n < length given → d ≡ get_or given n d
    → ((x : ℕ) → x ≢ d.0.0 → row_of half x ≡ row_of now x) → Widens (row_of now d.0.0) d.0.1 d.1 (row_of half d.0.0)
    → ((x : ℕ) → x ≢ d.0.1 → row_of new x ≡ row_of half x) → Widens (row_of half d.0.1) d.0.0 d.1 (row_of new d.0.1)
    → AddsGiven (take n given) old now → AddsGiven (take (n + 1) given) old new
given_more given n d old now half new h e others w others' w' t = record {
  each = λ a x y. let p = pair_cases now half d.0.0 d.0.1 d.1 a x y others w in let q = pair_cases half new d.0.1 d.0.0 d.1 a x y others' w' in (
    (λ k. elim (q.0 k) [
      | inl s ↦ elim (p.0 s) [
        | inl u ↦ elim ((t.each a x y).0 u) [
          | inl o ↦ inl o
          | inr r ↦ elim r [ inl v ↦ inr (inl (stated_one given n d a (x, y) h v)) | inr v ↦ inr (inr (stated_one given n d a (y, x) h v)) ]
        ]
        | inr u ↦ inr (inl (stated_last given n d a (x, y) h e (pair_is x y d.0 u.0 u.1) u.2))
      ]
      | inr s ↦ inr (inr (stated_last given n d a (y, x) h e (pair_is y x d.0 s.1 s.0) s.2))
    ]),
    (λ k. elim k [
      | inl o ↦ q.1 (inl (p.1 (inl ((t.each a x y).1 (inl o)))))
      | inr r ↦ elim r [
        | inl v ↦ elim (stated_more given n d a (x, y) h e v) [
          | inl s ↦ q.1 (inl (p.1 (inl ((t.each a x y).1 (inr (inl s))))))
          | inr s ↦ q.1 (inl (p.1 (inr (ap (λ r. r.0) s.0, ap (λ r. r.1) s.0, s.1))))
        ]
        | inr v ↦ elim (stated_more given n d a (y, x) h e v) [
          | inl s ↦ q.1 (inl (p.1 (inl ((t.each a x y).1 (inr (inr s))))))
          | inr s ↦ q.1 (inr (ap (λ r. r.1) s.0, ap (λ r. r.0) s.0, s.1))
        ]
      ]
    ]),
  );
}

pub given_all : (given : List ((ℕ × ℕ) × Set)) (n : ℕ) (old new : List Row) → length given ≤ n → AddsGiven (take n given) old new → AddsGiven given old new
given_all given n old new h t = subst (λ (xs : List ((ℕ × ℕ) × Set)). AddsGiven xs old new) (take_all n given h) t

-- the start: what is stated, and nothing else
none_has : (rows : List Row) (a : Assignment) (x y : ℕ) → ((i : ℕ) → row_of rows i ≡ []) → Has rows a x y → ⊥
none_has rows a x y none h = let P : Row → Type 0 = λ r. In (y, h.set) r in In-nil (subst P (none x) h.listed)

pub start_sound : (s : System) (none one two : List Row) → ((i : ℕ) → row_of none i ≡ []) → AddsThere s.there.items none one → AddsGiven s.given.items one two → IsSound s two
start_sound s none one two n t g = record {
  each = λ a x y h. elim ((g.each a x y).0 h) [
    | inl k ↦ elim ((t.each a x y).0 k) [
      | inl o ↦ absurd (none_has none a x y n o)
      | inr p ↦ subst (λ (m : ℕ). EqualIn s a x m) p.0 (itself (stated_holding s.there.items a x p.1))
    ]
    | inr p ↦ elim p [
      | inl q ↦ stated (stated_holding s.given.items a (x, y) q)
      | inr q ↦ turned (stated_holding s.given.items a (y, x) q)
    ]
  ];
}

pub start_rounds : (s : System) (none one two : List Row) → AddsThere s.there.items none one → AddsGiven s.given.items one two → HasRounds s 0 two
start_rounds s none one two t g = record {
  each = λ a x y h. elim h [
    | inl p ↦ (g.each a x y).1 (inl ((t.each a x y).1 (inr (p.1, holding_stated s.there.items a x p.0))))
    | inr p ↦ elim p [
      | inl q ↦ (g.each a x y).1 (inr (inl (holding_stated s.given.items a (x, y) q)))
      | inr q ↦ (g.each a x y).1 (inr (inr (holding_stated s.given.items a (y, x) q)))
    ]
  ];
}

pub within_at : {X : Type 0} (P : X → Type 0) (xs : List X) (n : ℕ) (d : X) → ((x : X) → In x xs → P x) → n < length xs → d ≡ get_or xs n d → P d
within_at P xs n d all h e = subst P (sym e) (all (get_or xs n d) (In-at xs n d h))
