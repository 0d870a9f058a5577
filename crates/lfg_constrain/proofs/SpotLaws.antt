-- Spots: how they grow, and where steps along arcs lead to.
use Rattle.std.proofs.Common.{◌≡◌, ◌≢◌, ℕ, zero, suc, ◌+◌, ◌<◌, ◌≤◌, ◌⊎◌, inl, inr, Bool, true, false, ◌&&◌, ◌||◌, List, [], ◌∷◌, ◌++◌, length, get_or, slice_set, take, drop, subst, sym, refl, ◌∙◌, ap, arith, map}
use Rattle.std.specs.Prelude.{◌↔◌}
use Rattle.std.proofs.lemmas.List.{take_all}
use Rattle.lfg_terms.specs.declared.node.Node.{Node}
use Rattle.lfg_model.specs.Lists.{In, here, later}
use Rattle.lfg_model.specs.Terms.{Name, Path}
use Rattle.lfg_model.proofs.ListLaws.{In-append_left, In-push, In-push_cases, In-cons_cases, In-nil, In-take_more, In-at}
use Rattle.lfg_context.specs.Seen.{Set}
use Rattle.lfg_context.specs.Sets.{Assignment, member}
use Rattle.lfg_context.specs.Telling.{Tells, InSome}
use Rattle.lfg_context.proofs.Telling.{and_true, and_from, or_true, or_left, or_right, true_not_false, In-take_one, In-take_last, tells_and, tells_as}
use Rattle.lfg_unify.specs.Closures.{Row, Closed, place_in, equal_at}
use Rattle.lfg_unify.specs.Rows.{Stands, Widens}
use Rattle.lfg_constrain.specs.Spots.{IsMet, Touches, Joins, IsTaken, TakesArc, Steps}

-- ---- lists

set_cases : {X : Type 0} (xs : List X) (i : ℕ) (x y : X) → In y (slice_set xs i x) → (y ≡ x) ⊎ In y xs
set_cases {X} [] i x y h = In-nil h
set_cases {X} (z ∷ zs) zero x y h = elim (In-cons_cases h) [ inl e ↦ inl e | inr r ↦ inr (later r) ]
set_cases {X} (z ∷ zs) (suc i) x y h = tail (λ w. set_cases zs i x y w) (In-cons_cases h)
  where
    tail : (In y (slice_set zs i x) → (y ≡ x) ⊎ In y zs) → (y ≡ z) ⊎ In y (slice_set zs i x) → (y ≡ x) ⊎ In y (z ∷ zs)
    tail ih (inl e) = inr (let P : X → Type 0 = λ v. In v (z ∷ zs) in subst P (sym e) here)
    tail ih (inr rest) = elim (ih rest) [ inl e ↦ inl e | inr w ↦ inr (later w) ]

set_new : {X : Type 0} (xs : List X) (i : ℕ) (x : X) → i < length xs → In x (slice_set xs i x)
set_new [] i x h = absurd (omega arith)
set_new (z ∷ zs) zero x h = here
set_new (z ∷ zs) (suc i) x h = later (set_new zs i x (omega arith))

set_old : {X : Type 0} (xs : List X) (i : ℕ) (x y d : X) → In y xs → (y ≡ get_or xs i d) ⊎ In y (slice_set xs i x)
set_old {X} [] i x y d h = In-nil h
set_old {X} (z ∷ zs) zero x y d h = elim (In-cons_cases h) [ inl e ↦ inl e | inr r ↦ inr (later r) ]
set_old {X} (z ∷ zs) (suc i) x y d h = tail (λ w. set_old zs i x y d w) (In-cons_cases h)
  where
    tail : (In y zs → (y ≡ get_or zs i d) ⊎ In y (slice_set zs i x)) → (y ≡ z) ⊎ In y zs → (y ≡ get_or zs i d) ⊎ In y (z ∷ slice_set zs i x)
    tail ih (inl e) = inr (let P : X → Type 0 = λ v. In v (z ∷ slice_set zs i x) in subst P (sym e) here)
    tail ih (inr rest) = elim (ih rest) [ inl e ↦ inl e | inr w ↦ inr (later w) ]

-- ---- one more place

pub widen_empty : (old : Row) (place : ℕ) (z : Set) → ((a : Assignment) → member z a ≡ false) → Widens old place z old
widen_empty old place z f = record { each = λ a y. ((λ s. inl s), (λ c. elim c [ inl s ↦ s | inr q ↦ absurd (true_not_false q.1 (f a)) ])) }

pub widen_push : (old : Row) (place : ℕ) (z w : Set) → w ≡ z → Widens old place z (old ++ (place, w) ∷ [])
widen_push old place z w e = record {
  each = λ a y. (
    (λ s. elim (In-push_cases old (place, w) s.listed) [
      | inl i ↦ inl (record { set = s.set; listed = i; holds = s.holds })
      | inr f ↦ inr (ap (λ (r : ℕ × Set). r.0) f, ap (λ v. member v a) (sym e) ∙ ap (λ (r : ℕ × Set). member r.1 a) (sym f) ∙ s.holds)
    ]),
    (λ c. elim c [
      | inl s ↦ record { set = s.set; listed = In-append_left _ s.listed; holds = s.holds }
      | inr q ↦ record { set = w; listed = (let P : ℕ → Type 0 = λ v. In (v, w) (old ++ (place, w) ∷ []) in subst P (sym q.0) (In-push old (place, w))); holds = ap (λ v. member v a) e ∙ q.1 }
    ]),
  );
}

pub widen_set : (old : Row) (i place : ℕ) (d : ℕ × Set) (z w : Set) → i < length old → d ≡ get_or old i d → d.0 ≡ place → ((a : Assignment) → member w a ≡ (member d.1 a || member z a))
    → Widens old place z (slice_set old i (place, w))
widen_set old i place d z w h is at m = record {
  each = λ a y. (
    (λ s. elim (set_cases old i (place, w) (y, s.set) s.listed) [
      | inl f ↦ elim (or_true (member d.1 a) (member z a) (sym (m a) ∙ ap (λ (r : ℕ × Set). member r.1 a) (sym f) ∙ s.holds)) [
        | inl p ↦ inl (record {
          set = d.1;
          listed = (let P : ℕ → Type 0 = λ v. In (v, d.1) old in subst P (at ∙ ap (λ (r : ℕ × Set). r.0) (sym f)) (let Q : ℕ × Set → Type 0 = λ v. In v old in subst Q (sym is) (In-at old i d h)));
          holds = p;
        })
        | inr q ↦ inr (ap (λ (r : ℕ × Set). r.0) f, q)
      ]
      | inr j ↦ inl (record { set = s.set; listed = j; holds = s.holds })
    ]),
    (λ c. elim c [
      | inl s ↦ elim (set_old old i (place, w) (y, s.set) d s.listed) [
        | inl f ↦ record {
          set = w;
          listed = (let P : ℕ → Type 0 = λ v. In (v, w) (slice_set old i (place, w)) in subst P (sym at ∙ ap (λ (r : ℕ × Set). r.0) (is ∙ sym f)) (set_new old i (place, w) h));
          holds = m a ∙ or_left _ _ (ap (λ (r : ℕ × Set). member r.1 a) (is ∙ sym f) ∙ s.holds);
        }
        | inr j ↦ record { set = s.set; listed = j; holds = s.holds }
      ]
      | inr q ↦ record { set = w; listed = (let P : ℕ → Type 0 = λ v. In (v, w) (slice_set old i (place, w)) in subst P (sym q.0) (set_new old i (place, w) h)); holds = m a ∙ or_right _ _ q.1 }
    ]),
  );
}

-- ---- all of others

pub joins_none : (old : Row) → Joins old [] old
joins_none old = record { each = λ a y. ((λ s. inl s), (λ c. elim c [ inl s ↦ s | inr s ↦ In-nil s.listed ])) }

pub joins_more : (old more now new : Row) (i : ℕ) (d : ℕ × Set) → i < length more → d ≡ get_or more i d → Joins old (take i more) now → Widens now d.0 d.1 new → Joins old (take (i + 1) more) new
joins_more old more now new i d h is j w = record {
  each = λ a y. (
    (λ s. elim ((w.each a y).0 s) [
      | inl p ↦ elim ((j.each a y).0 p) [
        | inl q ↦ inl q
        | inr q ↦ inr (record { set = q.set; listed = In-take_one more i d h q.listed; holds = q.holds })
      ]
      | inr p ↦ inr (record {
        set = d.1;
        listed = (let P : ℕ → Type 0 = λ v. In (v, d.1) (take (i + 1) more) in subst P (sym p.0) (let Q : ℕ × Set → Type 0 = λ v. In v (take (i + 1) more) in subst Q (sym is) (In-take_last more i d h)));
        holds = p.1;
      })
    ]),
    (λ c. elim c [
      | inl s ↦ (w.each a y).1 (inl ((j.each a y).1 (inl s)))
      | inr s ↦ elim (In-take_more more i d h s.listed) [
        | inl l ↦ (w.each a y).1 (inl ((j.each a y).1 (inr (record { set = s.set; listed = l; holds = s.holds }))))
        | inr f ↦ (w.each a y).1 (inr (ap (λ (r : ℕ × Set). r.0) (f ∙ sym is), ap (λ (r : ℕ × Set). member r.1 a) (sym (f ∙ sym is)) ∙ s.holds))
      ]
    ]),
  );
}

-- ---- what spots meet

pub met_tells : (k : Closed) (place : ℕ) (spot : ℕ × Set) (eq z : Set) → eq ≡ equal_at k spot.0 place → ((a : Assignment) → member z a ≡ (member spot.1 a && member eq a)) → Tells z (IsMet k place spot)
met_tells k place spot eq z e m = record {
  each = λ a. (
    (λ h. let b = and_true (member spot.1 a) (member eq a) (sym (m a) ∙ h) in record { holds = b.0; same = ap (λ v. member v a) (sym e) ∙ b.1 }),
    (λ s. m a ∙ and_from _ _ s.holds (ap (λ v. member v a) e ∙ s.same)),
  );
}

pub touches_tells : (k : Closed) (spots : Row) (place : ℕ) (set met z : Set) → Tells met (InSome spots (IsMet k place)) → ((a : Assignment) → member z a ≡ (member set a && member met a)) → Tells z (Touches k spots place set)
touches_tells k spots place set met z t m = record {
  each = λ a. (
    (λ h. let b = and_true (member set a) (member met a) (sym (m a) ∙ h) in record { by_set = b.0; met = (t.each a).0 b.1 }),
    (λ s. m a ∙ and_from _ _ s.by_set ((t.each a).1 s.met)),
  );
}

-- ---- one more arc

pub steps_none : (k : Closed) (spots : Row) (name : Name) → Steps k [] spots name []
steps_none k spots name = record { each = λ a y. ((λ s. In-nil s.listed), (λ s. In-nil s.listed)) }

pub takes_not : (k : Closed) (spots : Row) (name : Name) (d : Node × Name × Node × Set) (now : Row) → (d.1 ≡ name → ⊥) → TakesArc k spots name d now now
takes_not k spots name d now other = record { each = λ a y. ((λ s. inl s), (λ c. elim c [ inl s ↦ s | inr q ↦ absurd (other q.name_is) ])) }

pub takes_arc : (k : Closed) (spots : Row) (name : Name) (d : Node × Name × Node × Set) (from to : ℕ) (there : Set) (now new : Row) → d.1 ≡ name → from ≡ place_in k.nodes d.0 → to ≡ place_in k.nodes d.2
    → Tells there (Touches k spots from d.3) → Widens now to there new → TakesArc k spots name d now new
takes_arc k spots name d from to there now new named f t tells w = record {
  each = λ a y. (
    (λ r. elim ((w.each a y).0 r) [
      | inl p ↦ inl p
      | inr p ↦ inr (record { name_is = named; target = sym t ∙ sym p.0; touched = (let P : ℕ → Type 0 = λ v. Touches k spots v d.3 a in subst P f ((tells.each a).0 p.1)) })
    ]),
    (λ c. elim c [
      | inl p ↦ (w.each a y).1 (inl p)
      | inr u ↦ (w.each a y).1 (inr (sym u.target ∙ sym t, (tells.each a).1 (let Q : ℕ → Type 0 = λ v. Touches k spots v d.3 a in subst Q (sym f) u.touched)))
    ]),
  );
}

pub steps_more : (k : Closed) (arcs : List (Node × Name × Node × Set)) (spots : Row) (name : Name) (now new : Row) (i : ℕ) (d : Node × Name × Node × Set)
    → i < length arcs → d ≡ get_or arcs i d → TakesArc k spots name d now new → Steps k (take i arcs) spots name now → Steps k (take (i + 1) arcs) spots name new
steps_more k arcs spots name now new i d h is t s = record {
  each = λ a y. (
    (λ r. elim ((t.each a y).0 r) [
      | inl p ↦ (let q = (s.each a y).0 p in record { item = q.item; listed = In-take_one arcs i d h q.listed; holds = q.holds })
      | inr p ↦ record { item = d; listed = last; holds = p }
    ]),
    (λ r. elim (In-take_more arcs i d h r.listed) [
      | inl l ↦ (t.each a y).1 (inl ((s.each a y).1 (record { item = r.item; listed = l; holds = r.holds })))
      | inr g ↦ (let P : Node × Name × Node × Set → Type 0 = λ v. IsTaken k spots name y v a in (t.each a y).1 (inr (subst P (g ∙ sym is) r.holds)))
    ]),
  );
}
  where
    last : In d (take (i + 1) arcs)
    last = let P : Node × Name × Node × Set → Type 0 = λ v. In v (take (i + 1) arcs) in subst P (sym is) (In-take_last arcs i d h)

pub steps_all : (k : Closed) (arcs : List (Node × Name × Node × Set)) (spots : Row) (name : Name) (i : ℕ) (new : Row) → length arcs ≤ i → Steps k (take i arcs) spots name new → Steps k arcs spots name new
steps_all k arcs spots name i new h s = let P : List (Node × Name × Node × Set) → Type 0 = λ v. Steps k v spots name new in subst P (take_all i arcs h) s

-- ---- parallel lists

pub map_at : {X Y : Type 0} (f : X → Y) (xs : List X) (i : ℕ) (x : X) (y : Y) → i < length xs → x ≡ get_or xs i x → get_or (map f xs) i y ≡ f x
map_at f [] i x y h e = absurd (omega arith)
map_at f (z ∷ zs) zero x y h e = ap f (sym e)
map_at f (z ∷ zs) (suc i) x y h e = map_at f zs i x y (omega arith) e
