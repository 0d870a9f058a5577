-- Rows that grow.
use Rattle.std.proofs.Common.{◌≡◌, ◌≢◌, ℕ, zero, suc, ◌+◌, ◌<◌, ◌≤◌, nat_lt, Bool, true, false, ◌||◌, ◌⊎◌, inl, inr, List, [], ◌∷◌, ◌++◌, length, map, get_or, slice_set, take, drop, Result, Ok, Err, sym, refl, ◌∙◌, ap, subst, arith}
use Rattle.std.specs.Prelude.{◌↔◌, IfOk, if◌then◌else◌, insert, slice_index_or}
use Rattle.std.proofs.lemmas.List.{get_or_default, get_or-map, length-map, map-set, length-set, set-get_or, get_or-set_same, get_or-set_other}
use Rattle.lfg_model.specs.Lists.{In, here, later}
use Rattle.lfg_model.proofs.ListLaws.{In-at, In-nil, In-cons_cases, In-append_left, In-append_right, In-append_cases}
use Rattle.lfg_context.specs.Seen.{Set, Known}
use Rattle.lfg_context.specs.Sets.{Assignment, member, IsMade, IsGrown}
use Rattle.lfg_context.proofs.Growing.{made_grown, grown_refl, grown_trans, same_picks_refl, same_picks_trans}
use Rattle.lfg_context.proofs.Telling.{or_true, or_left, or_right, true_not_false}
use Rattle.lfg_unify.specs.Closures.{Row, Ascends}
use Rattle.lfg_unify.specs.Rows.{Stands, row_of, IsEntry, IsRow, AreRows, AreAscending, count_before, Widens}

-- ---- lists

-- what a write at a place leaves
In-set_here : {X : Type 0} (xs : List X) (n : ℕ) (v : X) → n < length xs → In v (slice_set xs n v)
In-set_here [] n v h = absurd (omega arith)
In-set_here (x ∷ xs) zero v h = here
In-set_here (x ∷ xs) (suc n) v h = later (In-set_here xs n v (omega arith))

In-set_other : {X : Type 0} (xs : List X) (n : ℕ) (v x : X) → In x xs → (x ≡ get_or xs n x) ⊎ In x (slice_set xs n v)
In-set_other [] n v x h = In-nil h
In-set_other (y ∷ xs) zero v x h = elim (In-cons_cases h) [ inl e ↦ inl e | inr i ↦ inr (later i) ]
In-set_other {X} (y ∷ xs) (suc n) v x h = elim (In-cons_cases h) [
  | inl e ↦ inr (let P : X → Type 0 = λ w. In w (y ∷ slice_set xs n v) in subst P (sym e) here)
  | inr i ↦ elim (In-set_other xs n v x i) [ inl e ↦ inl e | inr j ↦ inr (later j) ]
]

In_from_set : {X : Type 0} (xs : List X) (n : ℕ) (v x : X) → In x (slice_set xs n v) → (x ≡ v) ⊎ In x xs
In_from_set [] n v x h = In-nil h
In_from_set (y ∷ xs) zero v x h = elim (In-cons_cases h) [ inl e ↦ inl e | inr i ↦ inr (later i) ]
In_from_set {X} (y ∷ xs) (suc n) v x h = elim (In-cons_cases h) [
  | inl e ↦ inr (let P : X → Type 0 = λ w. In w (y ∷ xs) in subst P (sym e) here)
  | inr i ↦ elim (In_from_set xs n v x i) [ inl e ↦ inl e | inr j ↦ inr (later j) ]
]

In-insert_here : {X : Type 0} (xs : List X) (n : ℕ) (v : X) → In v (insert xs n v)
In-insert_here xs n v = In-append_right (take n xs) here

In-insert_other : {X : Type 0} (xs : List X) (n : ℕ) (v x : X) → In x xs → In x (insert xs n v)
In-insert_other [] zero v x h = In-nil h
In-insert_other [] (suc n) v x h = In-nil h
In-insert_other (y ∷ xs) zero v x h = later h
In-insert_other {X} (y ∷ xs) (suc n) v x h = elim (In-cons_cases h) [
  | inl e ↦ (let P : X → Type 0 = λ w. In w (insert (y ∷ xs) (suc n) v) in subst P (sym e) here)
  | inr i ↦ later (In-insert_other xs n v x i)
]

In_from_insert : {X : Type 0} (xs : List X) (n : ℕ) (v x : X) → In x (insert xs n v) → (x ≡ v) ⊎ In x xs
In_from_insert [] zero v x h = elim (In-cons_cases h) [ inl e ↦ inl e | inr i ↦ inr i ]
In_from_insert [] (suc n) v x h = elim (In-cons_cases h) [ inl e ↦ inl e | inr i ↦ inr i ]
In_from_insert (y ∷ xs) zero v x h = elim (In-cons_cases h) [ inl e ↦ inl e | inr i ↦ inr i ]
In_from_insert {X} (y ∷ xs) (suc n) v x h = elim (In-cons_cases h) [
  | inl e ↦ inr (let P : X → Type 0 = λ w. In w (y ∷ xs) in subst P (sym e) here)
  | inr i ↦ elim (In_from_insert xs n v x i) [ inl e ↦ inl e | inr j ↦ inr (later j) ]
]

-- ---- what a row has

stands_at : (row : Row) (a : Assignment) (j : ℕ) (z : Set) → In (j, z) row → member z a ≡ true → Stands row a j
stands_at row a j z i h = record { set = z; listed = i; holds = h }

entry_is : (y j : ℕ) (s z : Set) → ◌≡◌ {A = ℕ × Set} (y, s) (j, z) → (y ≡ j) × (s ≡ z)
entry_is y j s z e = (ap (λ r. r.0) e, ap (λ r. r.1) e)

-- a row without change
pub row_empty : (row : Row) (j : ℕ) (z : Set) → ((a : Assignment) → member z a ≡ false) → Widens row j z row
row_empty row j z n = record { each = λ a y. ((λ s. inl s), (λ s. elim s [ inl t ↦ t | inr p ↦ absurd (true_not_false p.1 (n a)) ])) }

pub row_same : (row : Row) (n j : ℕ) (w z : Set) (d : ℕ × Set) → n < length row → d ≡ get_or row n d → d.0 ≡ j
    → ((a : Assignment) → member w a ≡ (member d.1 a || member z a)) → ((a : Assignment) → member w a ≡ member d.1 a) → Widens row j z row
row_same row n j w z d h is e m same = record {
  each = λ a y. (
    (λ s. inl s),
    (λ s. elim s [
      | inl t ↦ t
      | inr p ↦ stands_at row a y d.1 (listed y p.0) (sym (same a) ∙ m a ∙ or_right (member d.1 a) (member z a) p.1)
    ]),
  );
}
  where
    listed : (y : ℕ) → y ≡ j → In (y, d.1) row
    listed y f =
        let i : In d row = (let P : (ℕ × Set) → Type 0 = λ v. In v row in subst P (sym is) (In-at row n d h)) in
        let P : ℕ → Type 0 = λ v. In (v, d.1) row in
        subst P (e ∙ sym f) i

pub row_set : (row : Row) (n j : ℕ) (w z : Set) (d : ℕ × Set) → n < length row → d ≡ get_or row n d → d.0 ≡ j
    → ((a : Assignment) → member w a ≡ (member d.1 a || member z a)) → Widens row j z (slice_set row n (j, w))
row_set row n j w z d h is e m = record {
  each = λ a y. (
    (λ s. elim (In_from_set row n (j, w) (y, s.set) s.listed) [
      | inl f ↦ let p = entry_is y j s.set w f in from_wider a y p.0 (sym (ap (λ v. member v a) p.1) ∙ s.holds)
      | inr i ↦ inl (stands_at row a y s.set i s.holds)
    ]),
    (λ s. elim s [
      | inl t ↦ elim (In-set_other row n (j, w) (y, t.set) t.listed) [
        | inl f ↦
            let g : ◌≡◌ {A = ℕ × Set} (y, t.set) d = f ∙ get_or_default row n (y, t.set) d h ∙ sym is in
            let p : (y ≡ d.0) × (t.set ≡ d.1) = (ap (λ r. r.0) g, ap (λ r. r.1) g) in
            new_at a y (p.0 ∙ e) (m a ∙ or_left (member d.1 a) (member z a) (sym (ap (λ v. member v a) p.1) ∙ t.holds))
        | inr i ↦ stands_at _ a y t.set i t.holds
      ]
      | inr p ↦ new_at a y p.0 (m a ∙ or_right (member d.1 a) (member z a) p.1)
    ]),
  );
}
  where
    new_at : (a : Assignment) (y : ℕ) → y ≡ j → member w a ≡ true → Stands (slice_set row n (j, w)) a y
    new_at a y f t = stands_at _ a y w (let P : ℕ → Type 0 = λ v. In (v, w) (slice_set row n (j, w)) in subst P (sym f) (In-set_here row n (j, w) h)) t

    from_wider : (a : Assignment) (y : ℕ) → y ≡ j → member w a ≡ true → Stands row a y ⊎ ((y ≡ j) × (member z a ≡ true))
    from_wider a y f t = elim (or_true (member d.1 a) (member z a) (sym (m a) ∙ t)) [
      | inl p ↦ inl (stands_at row a y d.1 (let P : ℕ → Type 0 = λ v. In (v, d.1) row in subst P (e ∙ sym f) (let Q : (ℕ × Set) → Type 0 = λ v. In v row in subst Q (sym is) (In-at row n d h))) p)
      | inr q ↦ inr (f, q)
    ]

pub row_insert : (row : Row) (n j : ℕ) (w z : Set) → w ≡ z → Widens row j z (insert row n (j, w))
row_insert row n j w z same = record {
  each = λ a y. (
    (λ s. elim (In_from_insert row n (j, w) (y, s.set) s.listed) [
      | inl f ↦ let p = entry_is y j s.set w f in inr (p.0, sym (ap (λ v. member v a) (p.1 ∙ same)) ∙ s.holds)
      | inr i ↦ inl (stands_at row a y s.set i s.holds)
    ]),
    (λ s. elim s [
      | inl t ↦ stands_at _ a y t.set (In-insert_other row n (j, w) (y, t.set) t.listed) t.holds
      | inr p ↦ stands_at _ a y w (let P : ℕ → Type 0 = λ v. In (v, w) (insert row n (j, w)) in subst P (sym p.0) (In-insert_here row n (j, w))) (ap (λ v. member v a) same ∙ p.1)
    ]),
  );
}

-- ---- entries

pub row_grown : {k l : Known} {row : Row} → IsGrown k l → IsRow k row → IsRow l row
row_grown g m = record { each = λ r i. record { made = made_grown g (m.each r i).made; some = (m.each r i).some } }

pub rows_grown : {k l : Known} {rows : List Row} → IsGrown k l → AreRows k rows → AreRows l rows
rows_grown g m = record { each = λ i. row_grown g (m.each i) }

pub entry_made : {k : Known} {row : Row} (n : ℕ) (d : ℕ × Set) → IsRow k row → n < length row → d ≡ get_or row n d → IsMade k d.1
entry_made {k} {row} n d m h is = let P : (ℕ × Set) → Type 0 = λ v. IsMade k v.1 in subst P (sym is) (m.each (get_or row n d) (In-at row n d h)).made

pub is_row_set : {k : Known} (row : Row) (n j : ℕ) (w z : Set) (d : ℕ × Set) → n < length row → d ≡ get_or row n d → IsMade k w
    → ((a : Assignment) → member w a ≡ (member d.1 a || member z a)) → IsRow k row → IsRow k (slice_set row n (j, w))
is_row_set {k} row n j w z d h is made m r = record {
  each = λ x i. elim (In_from_set row n (j, w) x i) [
    | inl e ↦ (let P : (ℕ × Set) → Type 0 = λ v. IsEntry k v in subst P (sym e) (record { made = made; some = (old.0, m old.0 ∙ or_left (member d.1 old.0) (member z old.0) old.1) }))
    | inr j ↦ r.each x j
  ];
}
  where
    old : (a : Assignment) × (member d.1 a ≡ true)
    old = let P : (ℕ × Set) → Type 0 = λ v. (a : Assignment) × (member v.1 a ≡ true) in subst P (sym is) (r.each (get_or row n d) (In-at row n d h)).some

pub is_row_insert : {k : Known} (row : Row) (n j : ℕ) (w : Set) → IsMade k w → ((a : Assignment) × (member w a ≡ true)) → IsRow k row → IsRow k (insert row n (j, w))
is_row_insert {k} row n j w made some r = record {
  each = λ x i. elim (In_from_insert row n (j, w) x i) [
    | inl e ↦ (let P : (ℕ × Set) → Type 0 = λ v. IsEntry k v in subst P (sym e) (record { made = made; some = some }))
    | inr j ↦ r.each x j
  ];
}

-- ---- order

pub ascends_set : (count from : ℕ) (row : Row) (n j : ℕ) (w : Set) (d : ℕ × Set) → n < length row → d ≡ get_or row n d → d.0 ≡ j → Ascends count from row → Ascends count from (slice_set row n (j, w))
ascends_set count from [] n j w d h is e s = absurd (omega arith)
ascends_set count from (r ∷ rs) zero j w d h is e s =
    let f : r.0 ≡ j = sym (ap (λ v. v.0) is) ∙ e in
    (subst (λ (v : ℕ). from ≤ v) f s.0, subst (λ (v : ℕ). v < count) f s.1, subst (λ (v : ℕ). Ascends count (suc v) rs) f s.2)
ascends_set count from (r ∷ rs) (suc n) j w d h is e s = (s.0, s.1, ascends_set count (suc r.0) rs n j w d (omega arith) is e s.2)

if_lt : {X : Type 0} (m n : ℕ) (x y : X) → m < n → (if nat_lt m n then x else y) ≡ x
if_lt m n x y h = let e : nat_lt m n ≡ true = grind arith in ap (λ b. if b then x else y) e

if_ge : {X : Type 0} (m n : ℕ) (x y : X) → n ≤ m → (if nat_lt m n then x else y) ≡ y
if_ge m n x y h = let e : nat_lt m n ≡ false = grind arith in ap (λ b. if b then x else y) e

le_or_lt : (m n : ℕ) → (m < n) ⊎ (n ≤ m)
le_or_lt m n = grind arith

pub ascends_insert : (count from : ℕ) (row : Row) (j : ℕ) (w : Set) → from ≤ j → j < count
    → ((d : ℕ × Set) → count_before row j < length row → (get_or row (count_before row j) d).0 ≢ j)
    → Ascends count from row → Ascends count from (insert row (count_before row j) (j, w))
ascends_insert count from [] j w h l differs s = (h, l, tt)
ascends_insert count from (r ∷ rs) j w h l differs s = elim (le_or_lt r.0 j) [
  | inl less ↦ let e = if_lt r.0 j (suc (count_before rs j)) 0 less in
      subst (λ (n : ℕ). Ascends count from (insert (r ∷ rs) n (j, w))) (sym e) (
        s.0,
        s.1,
        ascends_insert count (suc r.0) rs j w (omega arith) l
            (λ d k. let g = subst (λ (n : ℕ). n < suc (length rs) → (get_or (r ∷ rs) n d).0 ≢ j) e (differs d) in g (omega arith)) s.2,
      )
  | inr more ↦ let e = if_ge r.0 j (suc (count_before rs j)) 0 more in
      let g : r.0 ≢ j = (let f = subst (λ (n : ℕ). n < suc (length rs) → (get_or (r ∷ rs) n r).0 ≢ j) e (differs r) in f (omega arith)) in
      subst (λ (n : ℕ). Ascends count from (insert (r ∷ rs) n (j, w))) (sym e) (h, l, (omega (arith, g), s.1, s.2))
]

pub count_before-le : (row : Row) (j : ℕ) → count_before row j ≤ length row
count_before-le [] j = omega arith
count_before-le (r ∷ rs) j = elim (le_or_lt r.0 j) [
  | inl less ↦ let e = if_lt r.0 j (suc (count_before rs j)) 0 less in let h = count_before-le rs j in omega (arith, e, h)
  | inr more ↦ let e = if_ge r.0 j (suc (count_before rs j)) 0 more in omega (arith, e)
]

pub ruleset rows = (made_grown, grown_refl, grown_trans, same_picks_refl, same_picks_trans, row_grown, rows_grown, entry_made)

-- ---- a row of a table

-- where an entry is read at the place before which all is less, and is another
pub differs_from : (row : Row) (n at j : ℕ) (d : ℕ × Set) → at ≡ n → d ≡ get_or row at d → d.0 ≢ j → (e : ℕ × Set) → n < length row → (get_or row n e).0 ≢ j
differs_from row n at j d same is differs e h f =
    let g : get_or row n e ≡ d = get_or_default row n e d h ∙ sym (ap (λ m. get_or row m d) same) ∙ sym is in
    differs (sym (ap (λ r. r.0) g) ∙ f)

pub row_at : {V : Type 0} (f : V → Row) (vs : List V) (rows : List Row) (i : ℕ) (v : V) → map f vs ≡ rows → i < length rows → v ≡ get_or vs i v → row_of rows i ≡ f v
row_at {V} f vs rows i v e h is =
    let l : i < length vs = omega (arith, ap length e, length-map vs f) in
    sym (ap (λ r. row_of r i) e) ∙ get_or-map f vs i v [] l ∙ sym (ap f is)

pub after_write : {V : Type 0} (f : V → Row) (vs : List V) (rows : List Row) (i : ℕ) (v : V) → map f vs ≡ rows → map f (slice_set vs i v) ≡ slice_set rows i (f v)
after_write f vs rows i v e = map-set f vs i v ∙ ap (λ r. slice_set r i (f v)) e

pub row_of-same : (rows : List Row) (i : ℕ) (r : Row) → i < length rows → row_of (slice_set rows i r) i ≡ r
row_of-same rows i r h = get_or-set_same rows i r [] h

pub row_of-other : (rows : List Row) (i x : ℕ) (r : Row) → x ≢ i → row_of (slice_set rows i r) x ≡ row_of rows x
row_of-other rows i x r n = get_or-set_other rows i x r [] n

nat_cases : (m n : ℕ) → (m ≡ n) ⊎ (m ≢ n)
nat_cases m n = grind arith

-- what holds of each row still does after a write
each_row : (P : Row → Type 0) (rows : List Row) (i : ℕ) (r : Row) → i < length rows → ((x : ℕ) → P (row_of rows x)) → P r → (x : ℕ) → P (row_of (slice_set rows i r) x)
each_row P rows i r h all one x = elim (nat_cases x i) [
  | inl e ↦ subst P (sym (ap (λ n. row_of (slice_set rows i r) n) e ∙ row_of-same rows i r h)) one
  | inr n ↦ subst P (sym (row_of-other rows i x r n)) (all x)
]

pub ascending_set : (rows : List Row) (i : ℕ) (r : Row) → i < length rows → AreAscending rows → Ascends (length rows) 0 r → AreAscending (slice_set rows i r)
ascending_set rows i r h a one = record {
  each = subst (λ (n : ℕ). (x : ℕ) → Ascends n 0 (row_of (slice_set rows i r) x)) (sym (length-set rows i r)) (each_row (λ s. Ascends (length rows) 0 s) rows i r h a.each one);
}

pub rows_set : {k : Known} (rows : List Row) (i : ℕ) (r : Row) → i < length rows → AreRows k rows → IsRow k r → AreRows k (slice_set rows i r)
rows_set {k} rows i r h a one = record { each = each_row (λ s. IsRow k s) rows i r h a.each one }

pub write_same : (rows : List Row) (i : ℕ) (r : Row) → r ≡ row_of rows i → slice_set rows i r ≡ rows
write_same rows i r e = ap (λ s. slice_set rows i s) e ∙ set-get_or rows i []

pub if_ok_weaker : {X E : Type 0} (r : Result X E) (P Q : X → Type 0) → ((x : X) → P x → Q x) → IfOk r P → IfOk r Q
if_ok_weaker (Ok x) P Q f h = f x h
if_ok_weaker (Err e) P Q f h = tt
