-- Tables that grow by pairing what is paired through a place, and the targets of arcs.
use Rattle.std.proofs.Common.{◌≡◌, ◌≢◌, ℕ, zero, suc, ◌+◌, ◌<◌, ◌≤◌, Bool, true, false, ◌&&◌, ◌==◌, ◌⊎◌, inl, inr, List, [], ◌∷◌, ◌++◌, length, get_or, take, sym, refl, ◌∙◌, ap, subst, arith}
use Rattle.std.specs.Prelude.{◌↔◌, if◌then◌else◌, slice_index_or}
use Rattle.std.proofs.lemmas.List.{take_all}
use Rattle.lfg_model.specs.Lists.{In, here, later}
use Rattle.lfg_model.specs.Terms.{Name}
use Rattle.lfg_model.specs.Equal.{Equal, itself, stated, turned, joined, along}
use Rattle.lfg_model.proofs.ListLaws.{In-at, In-nil, In-cons_cases, In-take_more, In-take, In-one}
use Rattle.lfg_context.specs.Seen.{Set, Known}
use Rattle.lfg_context.specs.Sets.{Assignment, member, IsMade, IsGrown, AreMade}
use Rattle.lfg_context.proofs.Growing.{made_at}
use Rattle.lfg_context.proofs.Telling.{and_true, and_from, true_not_false, In-take_one, In-take_last}
use Rattle.lfg_unify.specs.Closures.{Row, Ascends, context_in}
use Rattle.lfg_unify.specs.declared.system.System.{System}
use Rattle.lfg_unify.specs.Holding.{holding}
use Rattle.lfg_unify.specs.Rows.{Stands, Has, row_of, IsRow, AreRows, Widens, Takes, Sweeps}
use Rattle.lfg_unify.specs.Systems.{Arc, EqualIn, IsSound, IsGrowth, IsJoined, IsLinked, AreLinked, AreWithin}

nat_cases : (m n : ℕ) → (m ≡ n) ⊎ (m ≢ n)
nat_cases m n = grind arith

lt_cases : (m n : ℕ) → (m < n) ⊎ (n ≤ m)
lt_cases m n = grind arith

-- ---- what holds in contexts

pub In-holding : {X : Type 0} (xs : List (X × Set)) (a : Assignment) (x : X) (z : Set) → In (x, z) xs → member z a ≡ true → In x (holding xs a)
In-holding [] a x z i h = In-nil i
In-holding {X} (y ∷ ys) a x z i h = by_member (λ j. In-holding ys a x z j h) (member y.1 a) refl
  where
    by_member : (In (x, z) ys → In x (holding ys a)) → (b : Bool) → member y.1 a ≡ b → In x (if b then y.0 ∷ holding ys a else holding ys a)
    by_member ih true e = elim (In-cons_cases i) [
      | inl f ↦ (let P : X → Type 0 = λ v. In v (y.0 ∷ holding ys a) in subst P (sym (ap (λ r. r.0) f)) here)
      | inr j ↦ later (ih j)
    ]
    by_member ih false e = elim (In-cons_cases i) [
      | inl f ↦ absurd (true_not_false h (ap (λ r. member r.1 a) f ∙ e))
      | inr j ↦ ih j
    ]

pub holding_In : {X : Type 0} (xs : List (X × Set)) (a : Assignment) (x : X) → In x (holding xs a) → (z : Set) × In (x, z) xs × (member z a ≡ true)
holding_In [] a x i = In-nil i
holding_In {X} (y ∷ ys) a x i = by_member (λ j. holding_In ys a x j) (member y.1 a) refl i
  where
    by_member : (In x (holding ys a) → (z : Set) × In (x, z) ys × (member z a ≡ true)) → (b : Bool) → member y.1 a ≡ b → In x (if b then y.0 ∷ holding ys a else holding ys a)
        → (z : Set) × In (x, z) (y ∷ ys) × (member z a ≡ true)
    by_member ih true e j = elim (In-cons_cases j) [
      | inl f ↦ (y.1, (let P : X → Type 0 = λ v. In (v, y.1) (y ∷ ys) in subst P (sym f) here), e)
      | inr k ↦ let r = ih k in (r.0, later r.1, r.2)
    ]
    by_member ih false e j = let r = ih j in (r.0, later r.1, r.2)

pub length-holding : {X : Type 0} (xs : List (X × Set)) (a : Assignment) → length (holding xs a) ≤ length xs
length-holding [] a = omega arith
length-holding {X} (y ∷ ys) a = by_member (member y.1 a) (length-holding ys a)
  where
    by_member : (b : Bool) → length (holding ys a) ≤ length ys → length (if b then y.0 ∷ holding ys a else holding ys a) ≤ suc (length ys)
    by_member true h = omega arith
    by_member false h = omega arith

-- ---- rows

get_beyond : {X : Type 0} (xs : List X) (i : ℕ) (d : X) → length xs ≤ i → slice_index_or xs i d ≡ d
get_beyond [] i d h = refl
get_beyond (x ∷ xs) zero d h = absurd (omega arith)
get_beyond (x ∷ xs) (suc i) d h = get_beyond xs i d (omega arith)

-- a place with a pair is one of the table
pub has_below : (rows : List Row) (a : Assignment) (i j : ℕ) → Has rows a i j → i < length rows
has_below rows a i j h = elim (lt_cases i (length rows)) [
  | inl l ↦ l
  | inr g ↦ (let P : Row → Type 0 = λ r. In (j, h.set) r in In-nil (subst P (get_beyond rows i [] g) h.listed))
]

pub ascends_entry : (count from : ℕ) (row : Row) (n : ℕ) (d : ℕ × Set) → Ascends count from row → n < length row → d ≡ get_or row n d → d.0 < count
ascends_entry count from [] n d s h e = absurd (omega arith)
ascends_entry count from (r ∷ rs) zero d s h e = subst (λ (v : ℕ). v < count) (sym (ap (λ v. v.0) e)) s.1
ascends_entry count from (r ∷ rs) (suc n) d s h e = ascends_entry count (suc r.0) rs n d s.2 (omega arith) e

ascends_lower : (count from : ℕ) (row : Row) (y : ℕ) (z : Set) → Ascends count from row → In (y, z) row → from ≤ y
ascends_lower count from [] y z s i = In-nil i
ascends_lower count from (r ∷ rs) y z s i = elim (In-cons_cases i) [
  | inl e ↦ subst (λ (v : ℕ). from ≤ v) (sym (ap (λ v. v.0) e)) s.0
  | inr j ↦ let h = ascends_lower count (suc r.0) rs y z s.2 j in omega (arith, h, s.0)
]

pub stands_below : (count from : ℕ) (row : Row) (y : ℕ) (z : Set) → Ascends count from row → In (y, z) row → y < count
stands_below count from [] y z s i = In-nil i
stands_below count from (r ∷ rs) y z s i = elim (In-cons_cases i) [
  | inl e ↦ subst (λ (v : ℕ). v < count) (sym (ap (λ v. v.0) e)) s.1
  | inr j ↦ stands_below count (suc r.0) rs y z s.2 j
]

-- the context beside a place, and where the place stands
pub context_stands : (none : Set) (row : Row) (a : Assignment) (j : ℕ) → member none a ≡ false → member (context_in none row j) a ≡ true → Stands row a j
context_stands none [] a j n h = absurd (true_not_false h n)
context_stands none (r ∷ rs) a j n h = by_place (λ k. context_stands none rs a j n k) (r.0 == j) refl h
  where
    same : (m n : ℕ) → (m == n) ≡ true → m ≡ n
    same m n e = grind arith

    by_place : (member (context_in none rs j) a ≡ true → Stands rs a j) → (b : Bool) → (r.0 == j) ≡ b → member (if b then r.1 else context_in none rs j) a ≡ true → Stands (r ∷ rs) a j
    by_place ih true e h = record { set = r.1; listed = (let P : ℕ → Type 0 = λ v. In (v, r.1) (r ∷ rs) in subst P (same r.0 j e) here); holds = h }
    by_place ih false e h = let s = ih h in record { set = s.set; listed = later s.listed; holds = s.holds }

pub stands_context : (none : Set) (count from : ℕ) (row : Row) (a : Assignment) (j : ℕ) → Ascends count from row → Stands row a j → member (context_in none row j) a ≡ true
stands_context none count from [] a j s h = In-nil h.listed
stands_context none count from (r ∷ rs) a j s h = by_place (λ k. stands_context none count (suc r.0) rs a j s.2 k) (r.0 == j) refl (In-cons_cases h.listed)
  where
    same : (m n : ℕ) → (m == n) ≡ true → m ≡ n
    same m n e = grind arith

    apart : (m n : ℕ) → (m == n) ≡ false → m ≢ n
    apart m n e = grind arith

    by_place : (Stands rs a j → member (context_in none rs j) a ≡ true) → (b : Bool) → (r.0 == j) ≡ b → (◌≡◌ {A = ℕ × Set} (j, h.set) r) ⊎ In (j, h.set) rs → member (if b then r.1 else context_in none rs j) a ≡ true
    by_place ih true e (inl f) = ap (λ v. member v.1 a) (sym f) ∙ h.holds
    by_place ih true e (inr i) = let l = ascends_lower count (suc r.0) rs j h.set s.2 i in let g = same r.0 j e in absurd (omega (arith, l, g))
    by_place ih false e (inl f) = absurd (apart r.0 j e (sym (ap (λ v. v.0) f)))
    by_place ih false e (inr i) = ih (record { set = h.set; listed = i; holds = h.holds })

pub context_made : {k : Known} (none : Set) (row : Row) (j : ℕ) → IsMade k none → IsRow k row → IsMade k (context_in none row j)
context_made {k} none [] j m r = m
context_made {k} none (e ∷ es) j m r = by_place (context_made none es j m (record { each = λ x i. r.each x (later i) })) (e.0 == j)
  where
    by_place : IsMade k (context_in none es j) → (b : Bool) → IsMade k (if b then e.1 else context_in none es j)
    by_place ih true = (r.each e here).made
    by_place ih false = ih

-- the first entries of a row, one by one
stands_one : (row : Row) (n : ℕ) (d : ℕ × Set) (a : Assignment) (y : ℕ) → n < length row → Stands (take n row) a y → Stands (take (n + 1) row) a y
stands_one row n d a y h s = record { set = s.set; listed = In-take_one row n d h s.listed; holds = s.holds }

stands_last : (row : Row) (n : ℕ) (d : ℕ × Set) (a : Assignment) → n < length row → d ≡ get_or row n d → member d.1 a ≡ true → Stands (take (n + 1) row) a d.0
stands_last row n d a h e m = record { set = d.1; listed = (let P : (ℕ × Set) → Type 0 = λ v. In v (take (n + 1) row) in subst P (sym e) (In-take_last row n d h)); holds = m }

pub stands_more : (row : Row) (n : ℕ) (d : ℕ × Set) (a : Assignment) (y : ℕ) → n < length row → d ≡ get_or row n d → Stands (take (n + 1) row) a y → Stands (take n row) a y ⊎ ((y ≡ d.0) × (member d.1 a ≡ true))
stands_more row n d a y h e s = elim (In-take_more row n d h s.listed) [
  | inl i ↦ inl (record { set = s.set; listed = i; holds = s.holds })
  | inr f ↦ (let g : ◌≡◌ {A = ℕ × Set} (y, s.set) d = f ∙ sym e in inr (ap (λ r. r.0) g, sym (ap (λ r. member r.1 a) g) ∙ s.holds))
]

pub at_place : (row : Row) (a : Assignment) (i j : ℕ) → i ≡ j → Stands row a i → Stands row a j
at_place row a i j e s = subst (λ (n : ℕ). Stands row a n) e s

-- ---- taking a row

pub takes_itself : (row : Row) (z : Set) → Takes row z row row
takes_itself row z = record { each = λ a y. ((λ s. inl s), (λ s. elim s [ inl t ↦ t | inr p ↦ p.1 ])) }

pub takes_none : (row : Row) (z : Set) → Takes row z [] row
takes_none row z = record { each = λ a y. ((λ s. inl s), (λ s. elim s [ inl t ↦ t | inr p ↦ In-nil p.1.listed ])) }

pub takes_more : (old now new other : Row) (z both : Set) (n : ℕ) (d : ℕ × Set) → n < length other → d ≡ get_or other n d → ((a : Assignment) → member both a ≡ (member z a && member d.1 a))
    → Takes old z (take n other) now → Widens now d.0 both new → Takes old z (take (n + 1) other) new
takes_more old now new other z both n d h e m t w = record {
  each = λ a y. (
    (λ s. elim ((w.each a y).0 s) [
      | inl u ↦ elim ((t.each a y).0 u) [ inl v ↦ inl v | inr p ↦ inr (p.0, stands_one other n d a y h p.1) ]
      | inr p ↦
          let b = and_true (member z a) (member d.1 a) (sym (m a) ∙ p.1) in
          inr (b.0, at_place _ a d.0 y (sym p.0) (stands_last other n d a h e b.1))
    ]),
    (λ s. elim s [
      | inl v ↦ (w.each a y).1 (inl ((t.each a y).1 (inl v)))
      | inr p ↦ elim (stands_more other n d a y h e p.1) [
        | inl v ↦ (w.each a y).1 (inl ((t.each a y).1 (inr (p.0, v))))
        | inr q ↦ (w.each a y).1 (inr (q.0, m a ∙ and_from (member z a) (member d.1 a) p.0 q.1))
      ]
    ]),
  );
}

pub takes_all : (old new other : Row) (z : Set) (n : ℕ) → length other ≤ n → Takes old z (take n other) new → Takes old z other new
takes_all old new other z n h t = subst (λ (r : Row). Takes old z r new) (take_all n other h) t

-- ---- sweeping a row

pub sweeps_none : (rows : List Row) (row : Row) → Sweeps rows row [] row
sweeps_none rows row = record { each = λ a y. ((λ s. inl s), (λ s. elim s [ inl t ↦ t | inr p ↦ In-nil p.1.listed ])) }

pub sweeps_more : (rows now : List Row) (place : ℕ) (given new : Row) (n : ℕ) (d : ℕ × Set) → n < length given → d ≡ get_or given n d
    → ((x : ℕ) → x ≢ place → row_of now x ≡ row_of rows x)
    → Sweeps rows (row_of rows place) (take n given) (row_of now place) → Takes (row_of now place) d.1 (row_of now d.0) new → Sweeps rows (row_of rows place) (take (n + 1) given) new
sweeps_more rows now place given new n d h e others t w = record {
  each = λ a y. (
    (λ s. elim ((w.each a y).0 s) [
      | inl u ↦ earlier a y u
      | inr p ↦ elim (nat_cases d.0 place) [
        | inl same ↦ earlier a y (subst (λ (x : ℕ). Stands (row_of now x) a y) same p.1)
        | inr other ↦ inr (d.0, stands_last given n d a h e p.0, subst (λ (r : Row). Stands r a y) (others d.0 other) p.1)
      ]
    ]),
    (λ s. elim s [
      | inl v ↦ kept a y v
      | inr p ↦ elim (stands_more given n d a p.0 h e p.1) [
        | inl v ↦ (w.each a y).1 (inl ((t.each a y).1 (inr (p.0, v, p.2))))
        | inr q ↦ let k : Has rows a d.0 y = subst (λ (x : ℕ). Has rows a x y) q.0 p.2 in elim (nat_cases d.0 place) [
          | inl same ↦ kept a y (subst (λ (x : ℕ). Has rows a x y) same k)
          | inr other ↦ (w.each a y).1 (inr (q.1, subst (λ (r : Row). Stands r a y) (sym (others d.0 other)) k))
        ]
      ]
    ]),
  );
}
  where
    earlier : (a : Assignment) (y : ℕ) → Stands (row_of now place) a y → Stands (row_of rows place) a y ⊎ ((j : ℕ) × Stands (take (n + 1) given) a j × Has rows a j y)
    earlier a y u = elim ((t.each a y).0 u) [ inl v ↦ inl v | inr p ↦ inr (p.0, stands_one given n d a p.0 h p.1, p.2) ]

    kept : (a : Assignment) (y : ℕ) → Stands (row_of rows place) a y → Stands new a y
    kept a y v = (w.each a y).1 (inl ((t.each a y).1 (inl v)))

pub sweeps_all : (rows : List Row) (old given new : Row) (n : ℕ) → length given ≤ n → Sweeps rows old (take n given) new → Sweeps rows old given new
sweeps_all rows old given new n h t = subst (λ (r : Row). Sweeps rows old r new) (take_all n given h) t

-- ---- growth

pub growth_refl : (arcs : List Arc) (rows : List Row) → IsGrowth arcs rows rows
growth_refl arcs rows = record { len = refl; keeps = λ a i j h. h; sound = λ s e h. h }

pub growth_trans : (arcs : List Arc) (x y z : List Row) → IsGrowth arcs x y → IsGrowth arcs y z → IsGrowth arcs x z
growth_trans arcs x y z g h = record {
  len = h.len ∙ g.len;
  keeps = λ a i j p. h.keeps a i j (g.keeps a i j p);
  sound = λ s e p. h.sound s e (g.sound s e p);
}

-- where one row alone grew
pub one_row : (old new : List Row) (i : ℕ) (a : Assignment) (x y : ℕ) → ((x : ℕ) → x ≢ i → row_of new x ≡ row_of old x) → Has new a x y → (Has old a x y) ⊎ ((x ≡ i) × Stands (row_of new i) a y)
one_row old new i a x y others h = elim (nat_cases x i) [
  | inl e ↦ inr (e, subst (λ (n : ℕ). Has new a n y) e h)
  | inr n ↦ inl (subst (λ (r : Row). Stands r a y) (others x n) h)
]

pub one_kept : (old new : List Row) (i : ℕ) (a : Assignment) (x y : ℕ) → ((x : ℕ) → x ≢ i → row_of new x ≡ row_of old x) → (Stands (row_of old i) a y → Stands (row_of new i) a y) → Has old a x y → Has new a x y
one_kept old new i a x y others keep h = elim (nat_cases x i) [
  | inl e ↦ subst (λ (n : ℕ). Has new a n y) (sym e) (keep (subst (λ (n : ℕ). Has old a n y) e h))
  | inr n ↦ subst (λ (r : Row). Stands r a y) (sym (others x n)) h
]

pub sweep_growth : (arcs : List Arc) (old new : List Row) (i : ℕ) → length new ≡ length old → ((x : ℕ) → x ≢ i → row_of new x ≡ row_of old x)
    → Sweeps old (row_of old i) (row_of old i) (row_of new i) → IsGrowth arcs old new
sweep_growth arcs old new i len others w = record {
  len = len;
  keeps = λ a x y h. one_kept old new i a x y others (λ s. (w.each a y).1 (inl s)) h;
  sound = λ s e p. record {
    each = λ a x y h. elim (one_row old new i a x y others h) [
      | inl k ↦ p.each a x y k
      | inr q ↦ subst (λ (n : ℕ). EqualIn s a n y) (sym q.0) (elim ((w.each a y).0 q.1) [
        | inl t ↦ p.each a i y t
        | inr r ↦ joined (p.each a i r.0 r.1) (p.each a r.0 y r.2)
      ])
    ];
  };
}

pub sweep_joins : (old : List Row) (i : ℕ) (new : Row) (a : Assignment) (j y : ℕ) → Sweeps old (row_of old i) (row_of old i) new → Has old a i j → Has old a j y → Stands new a y
sweep_joins old i new a j y w h k = (w.each a y).1 (inr (j, h, k))

-- what is joined at the places below a number
pub record JoinedBelow (n : ℕ) (old new : List Row) : Type 0 where
  pub each : (a : Assignment) (i j y : ℕ) → i < n → Has old a i j → Has old a j y → Has new a i y

pub joined_none : (rows : List Row) → JoinedBelow 0 rows rows
joined_none rows = record { each = λ a i j y h k l. absurd (omega arith) }

pub joined_more : (n : ℕ) (old now new : List Row) → ((a : Assignment) (i j : ℕ) → Has old a i j → Has now a i j) → ((a : Assignment) (i j : ℕ) → Has now a i j → Has new a i j)
    → ((a : Assignment) (j y : ℕ) → Has now a n j → Has now a j y → Has new a n y) → JoinedBelow n old now → JoinedBelow (n + 1) old new
joined_more n old now new before keeps one b = record {
  each = λ a i j y h k l. elim (nat_cases i n) [
    | inl e ↦ subst (λ (m : ℕ). Has new a m y) (sym e) (one a j y (before a n j (subst (λ (m : ℕ). Has old a m j) e k)) (before a j y l))
    | inr o ↦ keeps a i y (b.each a i j y (omega (arith, o, h)) k l)
  ];
}

pub joined_all : (n : ℕ) (old new : List Row) → length old ≤ n → JoinedBelow n old new → IsJoined old new
joined_all n old new h b = record { each = λ a i j y k l. let g = has_below old a i j k in b.each a i j y (omega (arith, g, h)) k l }

-- ---- arcs

-- one pair of arcs
pub link_growth : (arcs : List Arc) (old new : List Row) (p q : Arc) (z all : Set) → In p arcs → In q arcs → p.0.1 ≡ q.0.1 → length new ≡ length old
    → ((x : ℕ) → x ≢ p.0.2 → row_of new x ≡ row_of old x) → Widens (row_of old p.0.2) q.0.2 all (row_of new p.0.2)
    → ((a : Assignment) → member z a ≡ true → Has old a p.0.0 q.0.0) → ((a : Assignment) → member all a ≡ ((member z a && member p.1 a) && member q.1 a)) → IsGrowth arcs old new
link_growth arcs old new p q z all i j name len others w sources m = record {
  len = len;
  keeps = λ a x y h. one_kept old new p.0.2 a x y others (λ s. (w.each a y).1 (inl s)) h;
  sound = λ s e o. record {
    each = λ a x y h. elim (one_row old new p.0.2 a x y others h) [
      | inl k ↦ o.each a x y k
      | inr r ↦ subst (λ (n : ℕ). EqualIn s a n y) (sym r.0) (elim ((w.each a y).0 r.1) [
        | inl t ↦ o.each a p.0.2 y t
        | inr u ↦ subst (λ (n : ℕ). EqualIn s a p.0.2 n) (sym u.0) (forced s e o a u.1)
      ])
    ];
  };
}
  where
    forced : (s : System) → s.arcs.items ≡ arcs → IsSound s old → (a : Assignment) → member all a ≡ true → EqualIn s a p.0.2 q.0.2
    forced s e o a t =
        let b = and_true (member z a && member p.1 a) (member q.1 a) (sym (m a) ∙ t) in
        let c = and_true (member z a) (member p.1 a) b.0 in
        let first : In p s.arcs.items = subst (λ (xs : List Arc). In p xs) (sym e) i in
        let second : In q s.arcs.items = subst (λ (xs : List Arc). In q xs) (sym e) j in
        let one : In (p.0.0, p.0.1, p.0.2) (holding s.arcs.items a) = In-holding s.arcs.items a p.0 p.1 first c.1 in
        let two : In (q.0.0, q.0.1, q.0.2) (holding s.arcs.items a) = In-holding s.arcs.items a q.0 q.1 second b.1 in
        let two' : In (q.0.0, p.0.1, q.0.2) (holding s.arcs.items a) = subst (λ (n : Name). In (q.0.0, n, q.0.2) (holding s.arcs.items a)) (sym name) two in
        along (o.each a p.0.0 q.0.0 (sources a c.0)) one two'

pub link_links : (old : List Row) (new : Row) (p q : Arc) (z all : Set) (a : Assignment) → Widens (row_of old p.0.2) q.0.2 all new
    → (Has old a p.0.0 q.0.0 → member z a ≡ true) → ((a : Assignment) → member all a ≡ ((member z a && member p.1 a) && member q.1 a)) → IsLinked p q old a → Stands new a q.0.2
link_links old new p q z all a w sources m l =
    (w.each a q.0.2).1 (inr (refl, m a ∙ and_from (member z a && member p.1 a) (member q.1 a) (and_from (member z a) (member p.1 a) (sources l.sources) l.first_holds) l.second_holds))

-- what links in an earlier table links in a later one
pub link_later : (p q : Arc) (old now : List Row) (a : Assignment) → ((a : Assignment) (i j : ℕ) → Has old a i j → Has now a i j) → IsLinked p q old a → IsLinked p q now a
link_later p q old now a keeps l = record { name = l.name; first_holds = l.first_holds; second_holds = l.second_holds; sources = keeps a p.0.0 q.0.0 l.sources }

pub linked_none : (firsts : List Arc) (rows : List Row) → AreLinked firsts [] rows rows
linked_none firsts rows = record { each = λ a p q i j l. In-nil j }

pub no_linked : (seconds : List Arc) (rows : List Row) → AreLinked [] seconds rows rows
no_linked seconds rows = record { each = λ a p q i j l. In-nil i }

pub linked_more : (p : Arc) (seconds : List Arc) (n : ℕ) (q : Arc) (old now new : List Row) → n < length seconds → q ≡ get_or seconds n q
    → ((a : Assignment) (i j : ℕ) → Has old a i j → Has now a i j) → ((a : Assignment) (i j : ℕ) → Has now a i j → Has new a i j)
    → ((a : Assignment) → IsLinked p q now a → Has new a p.0.2 q.0.2) → AreLinked (p ∷ []) (take n seconds) old now → AreLinked (p ∷ []) (take (n + 1) seconds) old new
linked_more p seconds n q old now new h e before keeps one b = record {
  each = λ a r s i j l. elim (In-take_more seconds n q h j) [
    | inl k ↦ keeps a r.0.2 s.0.2 (b.each a r s i k l)
    | inr f ↦
        let first : p ≡ r = sym (In-one i) in
        let second : q ≡ s = e ∙ sym f in
        let P : Arc → Type 0 = λ v. IsLinked v s old a → Has new a v.0.2 s.0.2 in
        let Q : Arc → Type 0 = λ v. IsLinked p v old a → Has new a p.0.2 v.0.2 in
        subst P first (subst Q second (λ m. one a (link_later p q old now a before m))) l
  ];
}

pub links_more : (firsts : List Arc) (seconds : List Arc) (n : ℕ) (p : Arc) (old now new : List Row) → n < length firsts → p ≡ get_or firsts n p
    → ((a : Assignment) (i j : ℕ) → Has old a i j → Has now a i j) → ((a : Assignment) (i j : ℕ) → Has now a i j → Has new a i j)
    → AreLinked (p ∷ []) seconds now new → AreLinked (take n firsts) seconds old now → AreLinked (take (n + 1) firsts) seconds old new
links_more firsts seconds n p old now new h e before keeps one b = record {
  each = λ a r s i j l. elim (In-take_more firsts n p h i) [
    | inl k ↦ keeps a r.0.2 s.0.2 (b.each a r s k j l)
    | inr f ↦
        let first : p ≡ r = e ∙ sym f in
        let P : Arc → Type 0 = λ v. In v (p ∷ []) in
        one.each a r s (subst P first here) j (link_later r s old now a before l)
  ];
}

pub linked_all : (firsts seconds : List Arc) (n : ℕ) (old new : List Row) → length seconds ≤ n → AreLinked firsts (take n seconds) old new → AreLinked firsts seconds old new
linked_all firsts seconds n old new h b = subst (λ (xs : List Arc). AreLinked firsts xs old new) (take_all n seconds h) b

pub links_all : (firsts seconds : List Arc) (n : ℕ) (old new : List Row) → length firsts ≤ n → AreLinked (take n firsts) seconds old new → AreLinked firsts seconds old new
links_all firsts seconds n old new h b = subst (λ (xs : List Arc). AreLinked xs seconds old new) (take_all n firsts h) b

pub arc_within : (count : ℕ) (arcs : List Arc) (n : ℕ) (d : Arc) → AreWithin count arcs → n < length arcs → d ≡ get_or arcs n d → (d.0.0 < count) × (d.0.2 < count)
arc_within count arcs n d w h e = let P : Arc → Type 0 = λ v. (v.0.0 < count) × (v.0.2 < count) in subst P (sym e) (w.each (get_or arcs n d) (In-at arcs n d h))

pub arc_made : {k : Known} (arcs : List Arc) (n : ℕ) (d : Arc) → AreMade k (λ e. e.1) arcs → n < length arcs → d ≡ get_or arcs n d → IsMade k d.1
arc_made {k} arcs n d m h e = made_at n d m h e

pub arc_in : (arcs : List Arc) (n : ℕ) (d : Arc) → n < length arcs → d ≡ get_or arcs n d → In d arcs
arc_in arcs n d h e = let P : Arc → Type 0 = λ v. In v arcs in subst P (sym e) (In-at arcs n d h)
