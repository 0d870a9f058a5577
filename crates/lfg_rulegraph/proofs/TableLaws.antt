-- What the tables of a row, a choice and a repeated part read.
use Rattle.std.proofs.Common.{◌≡◌, ℕ, ◌+◌, ◌≤◌, Bool, true, false, IsTrue, List, [], ◌∷◌, ◌++◌, refl, sym, ap, subst, arith, inl, inr, ◌⊎◌}
use Rattle.std.specs.Prelude.{◌↔◌}
use Rattle.lfg_model.specs.Lists.{In, here}
use Rattle.lfg_model.proofs.ListLaws.{In-nil, In-one}
use Rattle.lfg_model.specs.Sequences.{Joins, Repeats, no_more, once_more}
use Rattle.lfg_rulegraph.specs.Tables.{Table, one_item, no_item, Linked, Goes, Reads, IsBetween, IsWithin, IsTable, IsRow, IsChoice, IsLoop}

-- ---- a table with more links and ends

goes_more : (a t : Table) → ((q p : ℕ) → Linked a q p → Linked t q p) → ((p : ℕ) → In p a.last → In p t.last) → (q : ℕ) (w : List ℕ) → Goes a q w → Goes t q w
goes_more a t links last q [] g = last q g
goes_more a t links last q (p ∷ rest) g = (links q p g.0, goes_more a t links last p rest g.1)

-- two parts, of which the items of the first are before those of the second
apart : (from mid to p : ℕ) → IsBetween from mid p → IsBetween mid to p → ⊥
apart from mid to p a b = omega (arith, a.among, b.behind)

-- ---- a part and another one behind it

module _ (from mid to : ℕ) (a b t : Table) (wa : IsWithin from mid a) (wb : IsWithin mid to b) (r : IsRow a b t) where
  behind : (q : ℕ) (w : List ℕ) → IsBetween mid to q → Goes t q w → Goes b q w
  behind q [] h g = elim ((r.last q).0 g) [ inl l ↦ l | inr l ↦ absurd (apart from mid to q (wa.last q l.1) h) ]
  behind q (p ∷ rest) h g = elim ((r.links q p).0 g.0) [
    | inl l ↦ absurd (apart from mid to q (wa.before q p l) h)
    | inr l ↦ elim l [
      | inl k ↦ (k, behind p rest (wb.after q p k) g.1)
      | inr k ↦ absurd (apart from mid to q (wa.last q k.0) h)
    ]
  ]

  -- the back of a row that goes on in the second part
  back : (w : List ℕ) → Reads b w → (q : ℕ) → In q a.last → Goes t q w
  back [] e q l = (r.last q).1 (inr (e, l))
  back (p ∷ rest) g q l = ((r.links q p).1 (inr (inr (l, g.0))), goes_more b t (λ x y k. (r.links x y).1 (inr (inl k))) (λ x k. (r.last x).1 (inl k)) p rest g.1)

  joined : (q : ℕ) (u v : List ℕ) → Goes a q u → Reads b v → Goes t q (u ++ v)
  joined q [] v l g = back v g q l
  joined q (p ∷ u) v h g = ((r.links q p).1 (inl h.0), joined p u v h.1 g)

  row_read : (u v : List ℕ) → Reads a u → Reads b v → Reads t (u ++ v)
  row_read [] [] e g = r.empty.1 (e, g)
  row_read [] (p ∷ v) e g = ((r.first p).1 (inr (e, g.0)), goes_more b t (λ x y k. (r.links x y).1 (inr (inl k))) (λ x k. (r.last x).1 (inl k)) p v g.1)
  row_read (p ∷ u) v h g = ((r.first p).1 (inl h.0), joined p u v h.1 g)

  parted : (q : ℕ) (w : List ℕ) → IsBetween from mid q → Goes t q w → Joins (Goes a q) (Reads b) w
  parted q [] h g = elim ((r.last q).0 g) [
    | inl l ↦ absurd (apart from mid to q h (wb.last q l))
    | inr l ↦ record { front = []; back = []; is = refl; first = l.1; second = l.0 }
  ]
  parted q (p ∷ rest) h g = elim ((r.links q p).0 g.0) [
    | inl l ↦ let j = parted p rest (wa.after q p l) g.1 in record { front = p ∷ j.front; back = j.back; is = ap (λ (ws : List ℕ). p ∷ ws) j.is; first = (l, j.first); second = j.second }
    | inr l ↦ elim l [
      | inl k ↦ absurd (apart from mid to q h (wb.before q p k))
      | inr k ↦ record { front = []; back = p ∷ rest; is = refl; first = k.0; second = (k.1, behind p rest (wb.first p k.1) g.1) }
    ]
  ]

  row_parted : (w : List ℕ) → Reads t w → Joins (Reads a) (Reads b) w
  row_parted [] e = let both = r.empty.0 e in record { front = []; back = []; is = refl; first = both.0; second = both.1 }
  row_parted (p ∷ rest) g = elim ((r.first p).0 g.0) [
    | inl l ↦ let j = parted p rest (wa.first p l) g.1 in record { front = p ∷ j.front; back = j.back; is = ap (λ (ws : List ℕ). p ∷ ws) j.is; first = (l, j.first); second = j.second }
    | inr l ↦ record { front = []; back = p ∷ rest; is = refl; first = l.0; second = (l.1, behind p rest (wb.first p l.1) g.1) }
  ]

  row_within : from ≤ mid → mid ≤ to → IsWithin from to t
  row_within l m = record {
    first = λ p h. elim ((r.first p).0 h) [ inl k ↦ near p (wa.first p k) | inr k ↦ far p (wb.first p k.1) ];
    last = λ p h. elim ((r.last p).0 h) [ inl k ↦ far p (wb.last p k) | inr k ↦ near p (wa.last p k.1) ];
    before = λ q p h. elim ((r.links q p).0 h) [
      | inl k ↦ near q (wa.before q p k)
      | inr k ↦ elim k [ inl j ↦ far q (wb.before q p j) | inr j ↦ near q (wa.last q j.0) ]
    ];
    after = λ q p h. elim ((r.links q p).0 h) [
      | inl k ↦ near p (wa.after q p k)
      | inr k ↦ elim k [ inl j ↦ far p (wb.after q p j) | inr j ↦ far p (wb.first p j.1) ]
    ];
  }
    where
      near : (p : ℕ) → IsBetween from mid p → IsBetween from to p
      near p h = record { behind = h.behind; among = omega (arith, h.among, m) }

      far : (p : ℕ) → IsBetween mid to p → IsBetween from to p
      far p h = record { behind = omega (arith, h.behind, l); among = h.among }

-- the table of a row
pub row_table : {P Q : List ℕ → Type 0} {from mid to : ℕ} {a b t : Table} → from ≤ mid → mid ≤ to → IsTable P from mid a → IsTable Q mid to b → IsRow a b t
    → IsTable (Joins P Q) from to t
row_table {P} {Q} {from} {mid} {to} {a} {b} {t} l m p q r = record {
  within = row_within from mid to a b t p.within q.within r l m;
  exact = λ w. (
    (λ j. subst (λ (v : List ℕ). Reads t v) (sym j.is) (row_read from mid to a b t p.within q.within r j.front j.back ((p.exact j.front).0 j.first) ((q.exact j.back).0 j.second))),
    (λ g. let j = row_parted from mid to a b t p.within q.within r w g in record { front = j.front; back = j.back; is = j.is; first = (p.exact j.front).1 j.first; second = (q.exact j.back).1 j.second }),
  );
}

-- ---- one of two parts

module _ (from mid to : ℕ) (a b t : Table) (wa : IsWithin from mid a) (wb : IsWithin mid to b) (r : IsChoice a b t) where
  in_left : (q : ℕ) (w : List ℕ) → IsBetween from mid q → Goes t q w → Goes a q w
  in_left q [] h g = elim ((r.last q).0 g) [ inl l ↦ l | inr l ↦ absurd (apart from mid to q h (wb.last q l)) ]
  in_left q (p ∷ rest) h g = elim ((r.links q p).0 g.0) [
    | inl l ↦ (l, in_left p rest (wa.after q p l) g.1)
    | inr l ↦ absurd (apart from mid to q h (wb.before q p l))
  ]

  in_right : (q : ℕ) (w : List ℕ) → IsBetween mid to q → Goes t q w → Goes b q w
  in_right q [] h g = elim ((r.last q).0 g) [ inl l ↦ absurd (apart from mid to q (wa.last q l) h) | inr l ↦ l ]
  in_right q (p ∷ rest) h g = elim ((r.links q p).0 g.0) [
    | inl l ↦ absurd (apart from mid to q (wa.before q p l) h)
    | inr l ↦ (l, in_right p rest (wb.after q p l) g.1)
  ]

  choice_read : (w : List ℕ) → Reads a w ⊎ Reads b w → Reads t w
  choice_read [] g = r.empty.1 g
  choice_read (p ∷ rest) g = elim g [
    | inl h ↦ ((r.first p).1 (inl h.0), goes_more a t (λ x y k. (r.links x y).1 (inl k)) (λ x k. (r.last x).1 (inl k)) p rest h.1)
    | inr h ↦ ((r.first p).1 (inr h.0), goes_more b t (λ x y k. (r.links x y).1 (inr k)) (λ x k. (r.last x).1 (inr k)) p rest h.1)
  ]

  choice_parted : (w : List ℕ) → Reads t w → Reads a w ⊎ Reads b w
  choice_parted [] g = r.empty.0 g
  choice_parted (p ∷ rest) g = elim ((r.first p).0 g.0) [
    | inl h ↦ inl (h, in_left p rest (wa.first p h) g.1)
    | inr h ↦ inr (h, in_right p rest (wb.first p h) g.1)
  ]

  choice_within : from ≤ mid → mid ≤ to → IsWithin from to t
  choice_within l m = record {
    first = λ p h. elim ((r.first p).0 h) [ inl k ↦ near p (wa.first p k) | inr k ↦ far p (wb.first p k) ];
    last = λ p h. elim ((r.last p).0 h) [ inl k ↦ near p (wa.last p k) | inr k ↦ far p (wb.last p k) ];
    before = λ q p h. elim ((r.links q p).0 h) [ inl k ↦ near q (wa.before q p k) | inr k ↦ far q (wb.before q p k) ];
    after = λ q p h. elim ((r.links q p).0 h) [ inl k ↦ near p (wa.after q p k) | inr k ↦ far p (wb.after q p k) ];
  }
    where
      near : (p : ℕ) → IsBetween from mid p → IsBetween from to p
      near p h = record { behind = h.behind; among = omega (arith, h.among, m) }

      far : (p : ℕ) → IsBetween mid to p → IsBetween from to p
      far p h = record { behind = omega (arith, h.behind, l); among = h.among }

-- the table of a choice
pub choice_table : {P Q : List ℕ → Type 0} {from mid to : ℕ} {a b t : Table} → from ≤ mid → mid ≤ to → IsTable P from mid a → IsTable Q mid to b → IsChoice a b t
    → IsTable (λ w. P w ⊎ Q w) from to t
choice_table {P} {Q} {from} {mid} {to} {a} {b} {t} l m p q r = record {
  within = choice_within from mid to a b t p.within q.within r l m;
  exact = λ w. (
    (λ h. choice_read from mid to a b t p.within q.within r w (elim h [ inl k ↦ inl ((p.exact w).0 k) | inr k ↦ inr ((q.exact w).0 k) ])),
    (λ g. elim (choice_parted from mid to a b t p.within q.within r w g) [ inl k ↦ inl ((p.exact w).1 k) | inr k ↦ inr ((q.exact w).1 k) ]),
  );
}

-- ---- a part that may be repeated

module _ (P : List ℕ → Type 0) (from to : ℕ) (a t : Table) (ta : IsTable P from to a) (r : IsLoop a t) where
  -- the table reads no row or one or more rows that the part reads
  abbrev Loops : List ℕ → Type 0
  Loops [] = Unit {0}
  Loops (p ∷ rest) = In p t.first × Goes t p rest

  in_last : (q : ℕ) → In q a.last → In q t.last
  in_last q h = subst (λ (xs : List ℕ). In q xs) (sym r.last) h

  in_first : (q : ℕ) → In q a.first → In q t.first
  in_first q h = subst (λ (xs : List ℕ). In q xs) (sym r.first) h

  from_last : (q : ℕ) → In q t.last → In q a.last
  from_last q h = subst (λ (xs : List ℕ). In q xs) r.last h

  from_first : (q : ℕ) → In q t.first → In q a.first
  from_first q h = subst (λ (xs : List ℕ). In q xs) r.first h

  again : (q : ℕ) (u v : List ℕ) → Goes a q u → Loops v → Goes t q (u ++ v)
  again q [] [] g h = in_last q g
  again q [] (p ∷ v) g h = ((r.links q p).1 (inr (g, from_first p h.0)), h.1)
  again q (p ∷ u) v g h = ((r.links q p).1 (inl g.0), again p u v g.1 h)

  once_again : (u v : List ℕ) → Reads a u → Loops v → Loops (u ++ v)
  once_again [] v g h = h
  once_again (p ∷ u) v g h = (in_first p g.0, again p u v g.1 h)

  loops : {w : List ℕ} → Repeats P w → Loops w
  loops no_more = tt
  loops (once_more {u} {v} {w} p rest e) = subst (λ (ws : List ℕ). Loops ws) (sym e) (once_again u v ((ta.exact u).0 p) (loops rest))

  pieces : (q : ℕ) (w : List ℕ) → Goes t q w → Joins (Goes a q) (Repeats P) w
  pieces q [] g = record { front = []; back = []; is = refl; first = from_last q g; second = no_more }
  pieces q (p ∷ rest) g =
      let j = pieces p rest g.1 in
      elim ((r.links q p).0 g.0) [
        | inl l ↦ record { front = p ∷ j.front; back = j.back; is = ap (λ (ws : List ℕ). p ∷ ws) j.is; first = (l, j.first); second = j.second }
        | inr l ↦ record { front = []; back = p ∷ rest; is = refl; first = l.0; second = once_more ((ta.exact (p ∷ j.front)).1 (l.1, j.first)) j.second (ap (λ (ws : List ℕ). p ∷ ws) j.is) }
      ]

  looped : (p : ℕ) (rest : List ℕ) → In p t.first → Goes t p rest → Joins P (Repeats P) (p ∷ rest)
  looped p rest h g = let j = pieces p rest g in record {
    front = p ∷ j.front;
    back = j.back;
    is = ap (λ (ws : List ℕ). p ∷ ws) j.is;
    first = (ta.exact (p ∷ j.front)).1 (from_first p h, j.first);
    second = j.second;
  }

  loop_within : IsWithin from to t
  loop_within = record {
    first = λ p h. ta.within.first p (from_first p h);
    last = λ p h. ta.within.last p (from_last p h);
    before = λ q p h. elim ((r.links q p).0 h) [ inl k ↦ ta.within.before q p k | inr k ↦ ta.within.last q k.0 ];
    after = λ q p h. elim ((r.links q p).0 h) [ inl k ↦ ta.within.after q p k | inr k ↦ ta.within.first p k.1 ];
  }

  star_parted : (w : List ℕ) → Reads t w → Repeats P w
  star_parted [] g = no_more
  star_parted (p ∷ rest) g = let j = looped p rest g.0 g.1 in once_more j.first j.second j.is

  star_read : IsTrue t.empty → (w : List ℕ) → Loops w → Reads t w
  star_read e [] h = e
  star_read e (p ∷ rest) h = h

  plus_read : t.empty ≡ a.empty → (u v w : List ℕ) → w ≡ u ++ v → Reads a u → Loops v → Reads t w
  plus_read e [] [] w is g h = rw (is, e) g
  plus_read e [] (p ∷ v) w is g h = subst (λ (ws : List ℕ). Reads t ws) (sym is) h
  plus_read e (p ∷ u) v w is g h = subst (λ (ws : List ℕ). Reads t ws) (sym is) (in_first p g.0, again p u v g.1 h)

  plus_parted : t.empty ≡ a.empty → (w : List ℕ) → Reads t w → Joins P (Repeats P) w
  plus_parted e [] g = record { front = []; back = []; is = refl; first = (ta.exact []).1 (rw (← e) g); second = no_more }
  plus_parted e (p ∷ rest) g = looped p rest g.0 g.1

-- the table of a part any number of times
pub star_table : {P : List ℕ → Type 0} {from to : ℕ} {a t : Table} → IsTable P from to a → IsLoop a t → IsTrue t.empty → IsTable (Repeats P) from to t
star_table {P} {from} {to} {a} {t} ta r e = record {
  within = loop_within P from to a t ta r;
  exact = λ w. ((λ h. star_read P from to a t ta r e w (loops P from to a t ta r h)), star_parted P from to a t ta r w);
}

-- that of a part one or more times
pub plus_table : {P : List ℕ → Type 0} {from to : ℕ} {a t : Table} → IsTable P from to a → IsLoop a t → t.empty ≡ a.empty → IsTable (Joins P (Repeats P)) from to t
plus_table {P} {from} {to} {a} {t} ta r e = record {
  within = loop_within P from to a t ta r;
  exact = λ w. (
    (λ j. plus_read P from to a t ta r e j.front j.back w j.is ((ta.exact j.front).0 j.first) (loops P from to a t ta r j.second)),
    plus_parted P from to a t ta r e w,
  );
}

-- ---- other tables

-- that of a part that may be absent
pub optional_table : {P : List ℕ → Type 0} {from to : ℕ} {a t : Table} → IsTable P from to a → IsTrue t.empty → t.first ≡ a.first → t.last ≡ a.last → t.links ≡ a.links
    → IsTable (λ w. (w ≡ []) ⊎ P w) from to t
optional_table {P} {from} {to} {a} {t} ta e f l k = record {
  within = record {
    first = λ p h. ta.within.first p (rw (← f) h);
    last = λ p h. ta.within.last p (rw (← l) h);
    before = λ q p h. ta.within.before q p (rw (← k) h);
    after = λ q p h. ta.within.after q p (rw (← k) h);
  };
  exact = λ w. (there w, back w);
}
  where
    there : (w : List ℕ) → (w ≡ []) ⊎ P w → Reads t w
    there [] h = e
    there (p ∷ rest) h = elim h [
      | inl none ↦ cc
      | inr has ↦ let g = (ta.exact (p ∷ rest)).0 has in (rw f g.0, goes_more a t (λ x y i. rw k i) (λ x i. rw l i) p rest g.1)
    ]

    back : (w : List ℕ) → Reads t w → (w ≡ []) ⊎ P w
    back [] h = inl refl
    back (p ∷ rest) g = inr ((ta.exact (p ∷ rest)).1 (rw (← f) g.0, goes_more t a (λ x y i. rw (← k) i) (λ x i. rw (← l) i) p rest g.1))

-- that of one item
item_read : (p : ℕ) (w : List ℕ) → w ≡ p ∷ [] → Reads (one_item p) w
item_read p w e = rw e (here, here)

read_item : (p : ℕ) (w : List ℕ) → Reads (one_item p) w → w ≡ p ∷ []
read_item p [] h = cc
read_item p (q ∷ []) g = ap (λ (n : ℕ). n ∷ []) (In-one g.0)
read_item p (q ∷ r ∷ rest) g = In-nil g.1.0

pub item_table : (before : ℕ) → IsTable (λ w. w ≡ (before + 1) ∷ []) before (before + 1) (one_item (before + 1))
item_table before = record {
  within = record {
    first = λ p h. at p (In-one h);
    last = λ p h. at p (In-one h);
    before = λ q p h. In-nil h;
    after = λ q p h. In-nil h;
  };
  exact = λ w. (item_read (before + 1) w, read_item (before + 1) w);
}
  where
    at : (p : ℕ) → p ≡ before + 1 → IsBetween before (before + 1) p
    at p e = record { behind = omega (arith, e); among = omega (arith, e) }

-- those of no item: they read the empty row or none
none_within : (at : ℕ) (empty : Bool) → IsWithin at at (no_item empty)
none_within at empty = record {
  first = λ p h. In-nil h;
  last = λ p h. In-nil h;
  before = λ q p h. In-nil h;
  after = λ q p h. In-nil h;
}

empty_read : (w : List ℕ) → w ≡ [] → Reads (no_item true) w
empty_read w e = rw e refl

read_empty : (w : List ℕ) → Reads (no_item true) w → w ≡ []
read_empty [] h = refl
read_empty (p ∷ rest) g = In-nil g.0

pub empty_table : (at : ℕ) → IsTable (λ w. w ≡ []) at at (no_item true)
empty_table at = record { within = none_within at true; exact = λ w. (empty_read w, read_empty w) }

read_none : (w : List ℕ) → Reads (no_item false) w → ⊥
read_none [] h = cc
read_none (p ∷ rest) g = In-nil g.0

pub none_table : (at : ℕ) → IsTable (λ w. ⊥) at at (no_item false)
none_table at = record { within = none_within at false; exact = λ w. ((λ h. absurd h), read_none w) }

pub same_table : {P Q : List ℕ → Type 0} {from to : ℕ} {t : Table} → ((w : List ℕ) → P w ↔ Q w) → IsTable P from to t → IsTable Q from to t
same_table {P} {Q} {from} {to} {t} s ta = record { within = ta.within; exact = λ w. ((λ q. (ta.exact w).0 ((s w).1 q)), (λ g. (s w).0 ((ta.exact w).1 g))) }
