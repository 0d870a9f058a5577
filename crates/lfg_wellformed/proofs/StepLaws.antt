-- How many steps can follow each other, and that as many as there are places make a cycle.
use Rattle.std.proofs.Common.{◌≡◌, ◌≢◌, ℕ, zero, suc, ◌+◌, ◌<◌, ◌≤◌, ◌⊎◌, inl, inr, Bool, true, false, ◌&&◌, ◌||◌, List, [], ◌∷◌, ◌++◌, length, get_or, slice_set, take, map, subst, sym, refl, ◌∙◌, ap, arith, add-one, append_assoc, Some}
use Rattle.std.proofs.lemmas.List.{take_all, take_more, map-append, length-append}
use Rattle.std.specs.Prelude.{◌↔◌, slice_get, slice_index_or, ◌==◌, if◌then◌else◌}
use Rattle.std.specs.List.Sorted.{IsStrictlySortedBy}
use Rattle.lfg_terms.specs.Order.{node_cmp}
use Rattle.lfg_terms.specs.declared.node.Node.{Node}
use Rattle.lfg_terms.specs.declared.literal.Literal.{Literal}
use Rattle.lfg_model.specs.Lists.{In, later}
use Rattle.lfg_model.specs.Terms.{Name}
use Rattle.lfg_model.specs.Solve.{Solution, solution, AreAlike, Step, by_arc, to_member, Below, one_step, more_steps, IsAcyclic}
use Rattle.lfg_model.proofs.Alike.{alike_turned}
use Rattle.lfg_model.proofs.ListLaws.{In-append_left, In-append_right, In-append_cases, In-cons_cases, In-map, In_from_map, In-nil, In-take_more, In-push_cases, In-at, In-place}
use Rattle.lfg_context.specs.Seen.{Set, Known}
use Rattle.lfg_context.specs.Sets.{Assignment, member, IsMade, AreMade}
use Rattle.lfg_context.specs.Telling.{Tells, Excludes, InSome}
use Rattle.lfg_context.proofs.Telling.{and_true, and_from, or_true, or_left, or_right, true_not_false, not_true, tells_as, In-take_one, In-take_last}
use Rattle.lfg_unify.specs.Closures.{Row, Ascends, Closed, place_in, context_in, equal_at, SameAt, HasArcAt, HasMemberAt, closure_at, IsClosureOf}
use Rattle.lfg_unify.specs.Rows.{Stands}
use Rattle.lfg_unify.specs.Holding.{holding}
use Rattle.lfg_unify.proofs.Places.{place_is, place_In}
use Rattle.lfg_wellformed.specs.Asked.{IsClosure}
use Rattle.lfg_wellformed.specs.Steps.{Move, arc_step, member_step, steps_of, LeadsOn, StepsOn, Lasts, IsIn, TellsEach, AreLasting, EntryLeads, AddsStep, AreWithin, IsOn}
use Rattle.lfg_wellformed.proofs.Classes.{classes_of, equal_known}
use Rattle.lfg_wellformed.proofs.Cycle.{Reach, one, then', cycle}

-- ---- lists

pub map_more : {X Y : Type 0} (f : X → Y) (front : List Y) (xs : List X) (n : ℕ) (d : X) (old new : List Y) (y : Y) → n < length xs → d ≡ get_or xs n d → old ≡ front ++ map f (take n xs) → new ≡ old ++ y ∷ [] → y ≡ f d
    → new ≡ front ++ map f (take (n + 1) xs)
map_more f front xs n d old new y h e o p q =
    p ∙ ap (λ ys. ys ++ y ∷ []) o ∙ append_assoc front (map f (take n xs)) (y ∷ [])
    ∙ ap (λ z. front ++ (map f (take n xs) ++ z ∷ [])) (q ∙ ap f e) ∙ ap (λ v. front ++ v) (sym (map-append f (take n xs) (get_or xs n d ∷ [])) ∙ ap (map f) (sym (take_more xs n d h)))

-- ---- rows

pub context_stands : (none : Set) (row : Row) (a : Assignment) (j : ℕ) → member none a ≡ false → member (context_in none row j) a ≡ true → Stands row a j
context_stands none [] a j n h = absurd (true_not_false h n)
context_stands none (r ∷ rs) a j n h = by_place (λ k. context_stands none rs a j n k) (r.0 == j) refl h
  where
    same : (m n : ℕ) → (m == n) ≡ true → m ≡ n
    same m n e = grind arith

    first : In r (r ∷ rs)
    first = In-at (r ∷ rs) 0 r (omega arith)

    by_place : (member (context_in none rs j) a ≡ true → Stands rs a j) → (b : Bool) → (r.0 == j) ≡ b → member (if b then r.1 else context_in none rs j) a ≡ true → Stands (r ∷ rs) a j
    by_place ih true e h = record { set = r.1; listed = (let P : ℕ → Type 0 = λ v. In (v, r.1) (r ∷ rs) in subst P (same r.0 j e) first); holds = h }
    by_place ih false e h = let s = ih h in record { set = s.set; listed = later s.listed; holds = s.holds }

ascends_lower : (count from : ℕ) (row : Row) (y : ℕ) (z : Set) → Ascends count from row → In (y, z) row → (from ≤ y) × (y < count)
ascends_lower count from [] y z s i = In-nil i
ascends_lower count from (r ∷ rs) y z s i = by_cases (λ j. ascends_lower count (suc r.0) rs y z s.2 j) (In-cons_cases i)
  where
    by_cases : (In (y, z) rs → (suc r.0 ≤ y) × (y < count)) → (◌≡◌ {A = ℕ × Set} (y, z) r) ⊎ In (y, z) rs → (from ≤ y) × (y < count)
    by_cases ih (inl e) = let f : y ≡ r.0 = ap (λ (v : ℕ × Set). v.0) e in (omega (arith, f, s.0), omega (arith, f, s.1))
    by_cases ih (inr j) = let h = ih j in (omega (arith, h.0, s.0), h.1)

pub stands_context : (none : Set) (count from : ℕ) (row : Row) (a : Assignment) (j : ℕ) → Ascends count from row → Stands row a j → member (context_in none row j) a ≡ true
stands_context none count from [] a j s h = In-nil h.listed
stands_context none count from (r ∷ rs) a j s h = by_place (λ k. stands_context none count (suc r.0) rs a j s.2 k) (r.0 == j) refl (In-cons_cases h.listed)
  where
    same : (m n : ℕ) → (m == n) ≡ true → m ≡ n
    same m n e = grind arith

    apart : (m n : ℕ) → (m == n) ≡ false → m ≢ n
    apart m n e = grind arith

    by_place : (Stands rs a j → member (context_in none rs j) a ≡ true) → (b : Bool) → (r.0 == j) ≡ b → (◌≡◌ {A = ℕ × Set} (j, h.set) r) ⊎ In (j, h.set) rs → member (if b then r.1 else context_in none rs j) a ≡ true
    by_place ih true e (inl f) = ap (λ (v : ℕ × Set). member v.1 a) (sym f) ∙ h.holds
    by_place ih true e (inr i) = let l = ascends_lower count (suc r.0) rs j h.set s.2 i in let g = same r.0 j e in absurd (omega (arith, l.0, g))
    by_place ih false e (inl f) = absurd (apart r.0 j e (sym (ap (λ (v : ℕ × Set). v.0) f)))
    by_place ih false e (inr i) = ih (record { set = h.set; listed = i; holds = h.holds })

-- an entry's place is one of the table
pub entry_below : (count from : ℕ) (row : Row) (i : ℕ) (d : ℕ × Set) → Ascends count from row → i < length row → d ≡ get_or row i d → d.0 < count
entry_below count from row i d s h is = (ascends_lower count from row d.0 d.1 s (let P : ℕ × Set → Type 0 = λ v. In v row in subst P (sym is) (In-at row i d h))).1

pub entry_tells : (none : Set) (sets : List Set) (entry : ℕ × Set) (set z : Set) → entry.0 < length sets → set ≡ get_or sets entry.0 set → ((a : Assignment) → member z a ≡ (member entry.1 a && member set a)) → Tells z (EntryLeads none sets entry)
entry_tells none sets entry set z h is m = record {
  each = λ a. (
    (λ w. let b = and_true (member entry.1 a) (member set a) (sym (m a) ∙ w) in record { entry_holds = b.0; set_holds = ap (λ v. member v a) (sym at) ∙ b.1 }),
    (λ s. m a ∙ and_from _ _ s.entry_holds (ap (λ v. member v a) at ∙ s.set_holds)),
  );
}
  where
    any_default : {X : Type 0} (ys : List X) (j : ℕ) (f g : X) → j < length ys → get_or ys j f ≡ get_or ys j g
    any_default [] j f g h = absurd (omega arith)
    any_default (y ∷ ys) zero f g h = refl
    any_default (y ∷ ys) (suc j) f g h = any_default ys j f g (omega arith)

    at : set ≡ get_or sets entry.0 none
    at = is ∙ any_default sets entry.0 set none h

pub row_leads : (k : Closed) (sets : List Set) (place : ℕ) (row : Row) (z : Set) → row ≡ slice_index_or k.rows place [] → Ascends (length k.nodes) 0 row → ((a : Assignment) → member k.empty a ≡ false)
    → Tells z (InSome row (EntryLeads k.empty sets)) → Tells z (LeadsOn k (IsIn k.empty sets) place)
row_leads k sets place row z e s none t = tells_as t (λ a. (
  (λ w.
      let stands : Stands row a w.item.0 = record { set = w.item.1; listed = w.listed; holds = w.holds.entry_holds } in
      let P : Row → Type 0 = λ v. member (context_in k.empty v w.item.0) a ≡ true in
      record {
        next = w.item.0;
        below = (ascends_lower (length k.nodes) 0 row w.item.0 w.item.1 s w.listed).1;
        same = subst P e (stands_context k.empty (length k.nodes) 0 row a w.item.0 s stands);
        holds = w.holds.set_holds;
      }),
  (λ w.
      let P : Row → Type 0 = λ v. member (context_in k.empty v w.next) a ≡ true in
      let stands = context_stands k.empty row a w.next (none a) (subst P (sym e) w.same) in
      record { item = (w.next, stands.set); listed = stands.listed; holds = record { entry_holds = stands.holds; set_holds = w.holds } }),
))

-- ---- one more step

set_same : {X : Type 0} (xs : List X) (i : ℕ) (x d : X) → i < length xs → get_or (slice_set xs i x) i d ≡ x
set_same [] i x d h = absurd (omega arith)
set_same (y ∷ ys) zero x d h = refl
set_same (y ∷ ys) (suc i) x d h = set_same ys i x d (omega arith)

set_other : {X : Type 0} (xs : List X) (i j : ℕ) (x d : X) → (i ≡ j → ⊥) → get_or (slice_set xs i x) j d ≡ get_or xs j d
set_other [] i j x d n = refl
set_other (y ∷ ys) zero zero x d n = absurd (n refl)
set_other (y ∷ ys) zero (suc j) x d n = refl
set_other (y ∷ ys) (suc i) zero x d n = refl
set_other (y ∷ ys) (suc i) (suc j) x d n = set_other ys i j x d (λ e. n (ap suc e))

set_length : {X : Type 0} (xs : List X) (i : ℕ) (x : X) → length (slice_set xs i x) ≡ length xs
set_length [] i x = refl
set_length (y ∷ ys) zero x = refl
set_length (y ∷ ys) (suc i) x = ap suc (set_length ys i x)

any_default : {X : Type 0} (ys : List X) (j : ℕ) (f g : X) → j < length ys → get_or ys j f ≡ get_or ys j g
any_default [] j f g h = absurd (omega arith)
any_default (y ∷ ys) zero f g h = refl
any_default (y ∷ ys) (suc j) f g h = any_default ys j f g (omega arith)

place_cases : (i j : ℕ) → (i ≡ j) ⊎ (i ≡ j → ⊥)
place_cases i j = grind arith

-- a step from or to no place adds nothing
pub adds_nothing : (k : Closed) (step : Move) (P : ℕ → Assignment → Type 0) (old : List Set) → ((a : Assignment) → member step.1 a ≡ true → ⊥) → AddsStep k step P old old
adds_nothing k step P old n = record { len = refl; each = λ j d a h. ((λ w. inl w), (λ c. elim c [ inl w ↦ w | inr q ↦ absurd (n a q.1) ])) }

pub adds_step : (k : Closed) (step : Move) (P : ℕ → Assignment → Type 0) (old : List Set) (from : ℕ) (here next both wider : Set) → from ≡ step.0.0 → from < length old → here ≡ get_or old from here
    → Tells next (LeadsOn k P step.0.1) → ((a : Assignment) → member both a ≡ (member step.1 a && member next a)) → ((a : Assignment) → member wider a ≡ (member here a || member both a))
    → AddsStep k step P old (slice_set old from wider)
adds_step k step P old from here next both wider at h is t m w = record {
  len = set_length old from wider;
  each = λ j d a l. elim (place_cases from j) [
    | inl e ↦ (
        let now : get_or (slice_set old from wider) j d ≡ wider = (let Q : ℕ → Type 0 = λ v. get_or (slice_set old from wider) v d ≡ wider in subst Q e (set_same old from wider d h)) in
        let was : here ≡ get_or old j d = is ∙ any_default old from here d h ∙ ap (λ v. get_or old v d) e in (
          (λ p. elim (or_true (member here a) (member both a) (sym (w a) ∙ ap (λ v. member v a) (sym now) ∙ p)) [
            | inl q ↦ inl (ap (λ v. member v a) (sym was) ∙ q)
            | inr q ↦ (let b = and_true (member step.1 a) (member next a) (sym (m a) ∙ q) in inr (sym at ∙ e, b.0, (t.each a).0 b.1))
          ]),
          (λ c. ap (λ v. member v a) now ∙ w a ∙ elim c [
            | inl q ↦ or_left _ _ (ap (λ v. member v a) was ∙ q)
            | inr q ↦ or_right _ _ (m a ∙ and_from _ _ q.1 ((t.each a).1 q.2))
          ]),
        ))
    | inr n ↦ (
        let now : get_or (slice_set old from wider) j d ≡ get_or old j d = set_other old from j wider d n in (
          (λ p. inl (ap (λ v. member v a) (sym now) ∙ p)),
          (λ c. ap (λ v. member v a) now ∙ elim c [ inl q ↦ q | inr q ↦ absurd (n (at ∙ q.0)) ]),
        ))
  ];
}

pub each_none : (k : Closed) (P : ℕ → Assignment → Type 0) (count : ℕ) (sets : List Set) (none : Set) → length sets ≡ count → ((x : Set) → In x sets → x ≡ none) → ((a : Assignment) → member none a ≡ false) → TellsEach count (StepsOn k [] P) sets
each_none k P count sets none len each e = record {
  len = len;
  each = λ j d h. record {
    each = λ a. (
      (λ w. absurd (true_not_false w (ap (λ v. member v a) (each (get_or sets j d) (In-at sets j d (omega (arith, len, h)))) ∙ e a))),
      (λ s. In-nil s.listed),
    );
  };
}

pub each_more : (k : Closed) (P : ℕ → Assignment → Type 0) (count : ℕ) (steps : List Move) (i : ℕ) (d : Move) (now new : List Set) → i < length steps → d ≡ get_or steps i d
    → TellsEach count (StepsOn k (take i steps) P) now → AddsStep k d P now new → TellsEach count (StepsOn k (take (i + 1) steps) P) new
each_more k P count steps i d now new h is t s = record {
  len = s.len ∙ t.len;
  each = λ j e l. record {
    each = λ a.
        let step = s.each j e a (omega (arith, t.len, l)) in (
          (λ w. elim (step.0 w) [
            | inl p ↦ (let q = ((t.each j e l).each a).0 p in record { step = q.step; listed = In-take_one steps i d h q.listed; from = q.from; holds = q.holds; on = q.on })
            | inr p ↦ record { step = d; listed = last; from = p.0; holds = p.1; on = p.2 }
          ]),
          (λ w. elim (In-take_more steps i d h w.listed) [
            | inl r ↦ step.1 (inl (((t.each j e l).each a).1 (record { step = w.step; listed = r; from = w.from; holds = w.holds; on = w.on })))
            | inr g ↦ (let R : Move → Type 0 = λ v. (v.0.0 ≡ j) × (member v.1 a ≡ true) × LeadsOn k P v.0.1 a in step.1 (inr (subst R (g ∙ sym is) (w.from, w.holds, w.on))))
          ]),
        );
  };
}
  where
    last : In d (take (i + 1) steps)
    last = let Q : Move → Type 0 = λ v. In v (take (i + 1) steps) in subst Q (sym is) (In-take_last steps i d h)

pub each_all : (k : Closed) (P : ℕ → Assignment → Type 0) (count : ℕ) (steps : List Move) (i : ℕ) (sets : List Set) → length steps ≤ i → TellsEach count (StepsOn k (take i steps) P) sets → TellsEach count (StepsOn k steps P) sets
each_all k P count steps i sets h t = let Q : List Move → Type 0 = λ v. TellsEach count (StepsOn k v P) sets in subst Q (take_all i steps h) t

-- ---- rounds

pub leads_map : (k : Closed) (P Q : ℕ → Assignment → Type 0) (place : ℕ) (a : Assignment) → ((i : ℕ) → i < length k.nodes → P i a → Q i a) → LeadsOn k P place a → LeadsOn k Q place a
leads_map k P Q place a f l = record { next = l.next; below = l.below; same = l.same; holds = f l.next l.below l.holds }

pub steps_map : (k : Closed) (steps : List Move) (P Q : ℕ → Assignment → Type 0) (place : ℕ) (a : Assignment) → ((i : ℕ) → i < length k.nodes → P i a → Q i a) → StepsOn k steps P place a → StepsOn k steps Q place a
steps_map k steps P Q place a f s = record { step = s.step; listed = s.listed; from = s.from; holds = s.holds; on = leads_map k P Q s.step.0.1 a f s.on }

pub lasting_none : (k : Closed) (sets : List Set) (full : Set) → length sets ≡ length k.nodes → ((x : Set) → In x sets → x ≡ full) → ((a : Assignment) → member full a ≡ true) → AreLasting k 0 sets
lasting_none k sets full len each e = record {
  len = len;
  each = λ j d h. record { each = λ a. ((λ w. tt), (λ u. ap (λ v. member v a) (each (get_or sets j d) (In-at sets j d (omega (arith, len, h)))) ∙ e a)) };
}

pub lasting_more : (k : Closed) (steps : List Move) (n : ℕ) (sets new : List Set) → steps ≡ steps_of k → AreLasting k n sets → TellsEach (length k.nodes) (StepsOn k steps (IsIn k.empty sets)) new → AreLasting k (n + 1) new
lasting_more k steps n sets new e t u =
    let Q : ℕ → Type 0 = λ v. AreLasting k v new in
    subst Q (sym (add-one n)) (record {
      len = u.len;
      each = λ j d h. tells_as (u.each j d h) (λ a.
          let R : List Move → Type 0 = λ v. StepsOn k v (Lasts k n) j a in (
            (λ s. subst R e (steps_map k steps (IsIn k.empty sets) (Lasts k n) j a (λ i l w. ((t.each i k.empty l).each a).0 w) s)),
            (λ s. steps_map k steps (Lasts k n) (IsIn k.empty sets) j a (λ i l w. ((t.each i k.empty l).each a).1 w) (subst R (sym e) s)),
          ));
    })

-- what one round more does not change no later round changes
record Settles (k : Closed) (a : Assignment) (n : ℕ) : Type 0 where
  longer : (j : ℕ) → j < length k.nodes → Lasts k n j a → Lasts k (suc n) j a
  shorter : (j : ℕ) → j < length k.nodes → Lasts k (suc n) j a → Lasts k n j a

settles_next : (k : Closed) (a : Assignment) (n : ℕ) → Settles k a n → Settles k a (suc n)
settles_next k a n s = record {
  longer = λ j h w. steps_map k (steps_of k) (Lasts k n) (Lasts k (suc n)) j a s.longer w;
  shorter = λ j h w. steps_map k (steps_of k) (Lasts k (suc n)) (Lasts k n) j a s.shorter w;
}

le_cases : (n m : ℕ) → n ≤ suc m → (n ≤ m) ⊎ (n ≡ suc m)
le_cases n m h = grind arith

settles_later : (k : Closed) (a : Assignment) (n m : ℕ) → n ≤ m → Settles k a n → Settles k a m
settles_later k a n zero h s = let e : n ≡ 0 = omega arith in let P : ℕ → Type 0 = λ v. Settles k a v in subst P e s
settles_later k a n (suc m) h s = by_cases (λ l. settles_later k a n m l s) (le_cases n m h)
  where
    by_cases : (n ≤ m → Settles k a m) → (n ≤ m) ⊎ (n ≡ suc m) → Settles k a (suc m)
    by_cases ih (inl l) = settles_next k a m (ih l)
    by_cases ih (inr e) = let P : ℕ → Type 0 = λ v. Settles k a v in subst P e s

-- from the round on, all are the same
same_later : (k : Closed) (a : Assignment) (n m : ℕ) → n ≤ m → Settles k a n → (j : ℕ) → j < length k.nodes → Lasts k n j a ↔ Lasts k m j a
same_later k a n zero h s j l = let e : n ≡ 0 = omega arith in let P : ℕ → Type 0 = λ v. Lasts k n j a ↔ Lasts k v j a in subst P e ((λ w. w), (λ w. w))
same_later k a n (suc m) h s j l = by_cases (λ g. same_later k a n m g s j l) (le_cases n m h)
  where
    by_cases : (n ≤ m → Lasts k n j a ↔ Lasts k m j a) → (n ≤ m) ⊎ (n ≡ suc m) → Lasts k n j a ↔ Lasts k (suc m) j a
    by_cases ih (inl g) = let t = settles_later k a n m g s in ((λ w. t.longer j l ((ih g).0 w)), (λ w. (ih g).1 (t.shorter j l w)))
    by_cases ih (inr e) = let P : ℕ → Type 0 = λ v. Lasts k n j a ↔ Lasts k v j a in subst P e ((λ w. w), (λ w. w))

pub lasting_settled : (k : Closed) (n : ℕ) (sets new : List Set) → n < length k.nodes → AreLasting k n sets → AreLasting k (n + 1) new
    → ((j : ℕ) (d : Set) (a : Assignment) → j < length sets → member (get_or sets j d) a ≡ member (get_or new j d) a) → AreLasting k (length k.nodes) new
lasting_settled k n sets new h t u same = record {
  len = u.len;
  each = λ j d l. tells_as (v.each j d l) (λ a. same_later k a (suc n) (length k.nodes) h (settles_next k a n (settles a)) j l);
}
  where
    v : AreLasting k (suc n) new
    v = let Q : ℕ → Type 0 = λ w. AreLasting k w new in subst Q (add-one n) u

    settles : (a : Assignment) → Settles k a n
    settles a = record {
      longer = λ j l w. ((v.each j k.empty l).each a).0 (sym (same j k.empty a (omega (arith, t.len, l))) ∙ ((t.each j k.empty l).each a).1 w);
      shorter = λ j l w. ((t.each j k.empty l).each a).0 (same j k.empty a (omega (arith, t.len, l)) ∙ ((v.each j k.empty l).each a).1 w);
    }

-- ---- cycles

step_like : (y z : Solution) → AreAlike y z → (x t : Node) → Step y x t → Step z x t
step_like y z e x t (by_arc h) = by_arc ((e.arc _ _ _).0 h)
step_like y z e x t (to_member h) = to_member ((e.member _ _).0 h)

below_like : (y z : Solution) → AreAlike y z → {x t : Node} → Below y x t → Below z x t
below_like y z e (one_step s) = one_step (step_like y z e _ _ s)
below_like y z e (more_steps s b) = more_steps (step_like y z e _ _ s) (below_like y z e b)

-- a node stands at each place
node_of : (ns : List Node) (j : ℕ) → IsStrictlySortedBy node_cmp ns → j < length ns → (x : Node) × (place_in ns x ≡ j)
node_of ns j s h = let g = found ns j h in (g.0, place_is ns g.0 j s g.1)
  where
    found : {X : Type 0} (xs : List X) (i : ℕ) → i < length xs → (x : X) × (slice_get xs i ≡ Some x)
    found [] i l = absurd (omega arith)
    found (x ∷ xs) zero l = (x, refl)
    found (x ∷ xs) (suc i) l = found xs i (omega arith)

below_more : (y : Solution) (x z t : Node) → Below y x z → Step y z t → Below y x t
below_more y x z t (one_step s) w = more_steps s (one_step w)
below_more y x z t (more_steps s b) w = more_steps s (below_more y _ z t b w)

module _ {c : Known} {k : Closed} (m : IsClosure c k) (a : Assignment) where
  -- one step leads from a place to a place
  record Links (i j : ℕ) : Type 0 where
    step : Move
    listed : In step (steps_of k)
    from : step.0.0 ≡ i
    holds : member step.1 a ≡ true
    same : member (equal_at k step.0.1 j) a ≡ true
    first : i < length k.nodes
    below : j < length k.nodes

  -- where a step holds, its ends are places of nodes
  pub ends_of : (s : Move) → In s (steps_of k) → member s.1 a ≡ true → (s.0.0 < length k.nodes) × (s.0.1 < length k.nodes)
  ends_of s i h = elim (In-append_cases (map (arc_step k) k.arcs) (map (member_step k) k.members) i) [
    | inl p ↦ (
        let r = In_from_map (arc_step k) k.arcs p in
        let on = ap (λ (v : Move). member v.1 a) r.2 ∙ h in
        let t = m.is.there.arc a r.0.0 r.0.1 r.0.2 r.0.3 r.1 on in
        let P : Move → Type 0 = λ v. (v.0.0 < length k.nodes) × (v.0.1 < length k.nodes) in
        subst P r.2 (place_In k.nodes r.0.0 (equal_known a r.0.0 r.0.0 m t.0).0, place_In k.nodes r.0.2 (equal_known a r.0.2 r.0.2 m t.1).0))
    | inr p ↦ (
        let r = In_from_map (member_step k) k.members p in
        let on = ap (λ (v : Move). member v.1 a) r.2 ∙ h in
        let t = m.is.there.member a r.0.0 r.0.1 r.0.2 r.1 on in
        let P : Move → Type 0 = λ v. (v.0.0 < length k.nodes) × (v.0.1 < length k.nodes) in
        subst P r.2 (place_In k.nodes r.0.1 (equal_known a r.0.1 r.0.1 m t.1).0, place_In k.nodes r.0.0 (equal_known a r.0.0 r.0.0 m t.0).0))
  ]

  step_of : (x t : Node) → Links (place_in k.nodes x) (place_in k.nodes t) → Step (closure_at k a) x t
  step_of x t l = elim (In-append_cases (map (arc_step k) k.arcs) (map (member_step k) k.members) l.listed) [
    | inl p ↦ (
        let r = In_from_map (arc_step k) k.arcs p in
        let on = ap (λ (v : Move). member v.1 a) r.2 ∙ l.holds in
        let w = m.is.there.arc a r.0.0 r.0.1 r.0.2 r.0.3 r.1 on in
        let P : ℕ → Type 0 = λ v. member (equal_at k v (place_in k.nodes r.0.0)) a ≡ true in
        let Q : ℕ → Type 0 = λ v. member (equal_at k v (place_in k.nodes t)) a ≡ true in
        by_arc (record {
          from = r.0.0;
          to = r.0.2;
          ctx = r.0.3;
          listed = r.1;
          holds = on;
          start = subst P (ap (λ (v : Move). v.0.0) r.2 ∙ l.from) w.0;
          end = subst Q (sym (ap (λ (v : Move). v.0.1) r.2)) l.same;
        }))
    | inr p ↦ (
        let r = In_from_map (member_step k) k.members p in
        let on = ap (λ (v : Move). member v.1 a) r.2 ∙ l.holds in
        let w = m.is.there.member a r.0.0 r.0.1 r.0.2 r.1 on in
        let P : ℕ → Type 0 = λ v. member (equal_at k v (place_in k.nodes r.0.1)) a ≡ true in
        let Q : ℕ → Type 0 = λ v. member (equal_at k v (place_in k.nodes t)) a ≡ true in
        to_member (record {
          item = r.0.0;
          set = r.0.1;
          ctx = r.0.2;
          listed = r.1;
          holds = on;
          same = subst P (ap (λ (v : Move). v.0.0) r.2 ∙ l.from) w.1;
          is = subst Q (sym (ap (λ (v : Move). v.0.1) r.2)) l.same;
        }))
  ]

  -- a way over places is one down from node to node
  way_down : (i j : ℕ) (x t : Node) → place_in k.nodes x ≡ i → place_in k.nodes t ≡ j → Reach Links i j → Below (closure_at k a) x t
  way_down i j x t e f (one l) = let P : ℕ → Type 0 = λ v. Links v j in let Q : ℕ → Type 0 = λ v. Links (place_in k.nodes x) v in one_step (step_of x t (subst Q (sym f) (subst P (sym e) l)))
  way_down i j x t e f (then' {j = h} r l) =
      let z = node_of k.nodes h m.is.nodes.ascends l.first in
      let P : ℕ → Type 0 = λ v. Links v j in
      let Q : ℕ → Type 0 = λ v. Links (place_in k.nodes z.0) v in
      below_more (closure_at k a) x z.0 t (way_down i h x z.0 e z.1 r) (step_of z.0 t (subst Q (sym f) (subst P (sym z.1) l)))

  -- as many steps as there are places make a cycle
  pub cycle_of : (j : ℕ) → j < length k.nodes → Lasts k (length k.nodes) j a → (x : Node) × Below (closure_at k a) x x
  cycle_of j h w =
      let r = cycle Links (length k.nodes) (λ n i. (i < length k.nodes) × Lasts k n i a) (λ n i l. l.0) (λ n i l.
      let s = l.1 in
      (s.on.next, record { step = s.step; listed = s.listed; from = s.from; holds = s.holds; same = s.on.same; first = l.0; below = s.on.below }, (s.on.below, s.on.holds))) j (h, w) in
      let x = node_of k.nodes r.0 m.is.nodes.ascends (first_of r.0 r.0 r.1) in
      (x.0, way_down r.0 r.0 x.0 x.0 x.1 x.1 r.1)
    where
      first_of : (i l : ℕ) → Reach Links i l → i < length k.nodes
      first_of i l (one s) = s.first
      first_of i l (then' r s) = first_of i _ r

  shorter : (n j : ℕ) → Lasts k (suc n) j a → Lasts k n j a
  shorter zero j s = tt
  shorter (suc n) j s = steps_map k (steps_of k) (Lasts k (suc n)) (Lasts k n) j a (λ i l w. shorter n i w) s

  -- a step leads back by one more
  back : (n : ℕ) (x t : Node) → Step (closure_at k a) x t → LeadsOn k (Lasts k n) (place_in k.nodes t) a → LeadsOn k (Lasts k (suc n)) (place_in k.nodes x) a
  back n x t (by_arc {a = name} h) l =
      let y = classes_of a m in
      let u = node_of k.nodes l.next m.is.nodes.ascends l.below in
      let P : ℕ → Type 0 = λ v. member (equal_at k (place_in k.nodes t) v) a ≡ true in
      let Q : ℕ → Type 0 = λ v. member (equal_at k (place_in k.nodes h.to) v) a ≡ true in
      record {
        next = place_in k.nodes h.from;
        below = place_In k.nodes h.from (equal_known a x h.from m h.start).1;
        same = h.start;
        holds = record {
          step = arc_step k (h.from, name, h.to, h.ctx);
          listed = In-append_left (map (member_step k) k.members) (In-map (arc_step k) h.listed);
          from = refl;
          holds = h.holds;
          on = record { next = l.next; below = l.below; same = subst Q u.1 (y.joined h.to t u.0 h.end (subst P (sym u.1) l.same)); holds = l.holds };
        };
      }
  back n x t (to_member h) l =
      let y = classes_of a m in
      let u = node_of k.nodes l.next m.is.nodes.ascends l.below in
      let P : ℕ → Type 0 = λ v. member (equal_at k (place_in k.nodes t) v) a ≡ true in
      let Q : ℕ → Type 0 = λ v. member (equal_at k (place_in k.nodes h.item) v) a ≡ true in
      record {
        next = place_in k.nodes h.set;
        below = place_In k.nodes h.set (equal_known a x h.set m h.same).1;
        same = h.same;
        holds = record {
          step = member_step k (h.item, h.set, h.ctx);
          listed = In-append_right (map (arc_step k) k.arcs) (In-map (member_step k) h.listed);
          from = refl;
          holds = h.holds;
          on = record { next = l.next; below = l.below; same = subst Q u.1 (y.joined h.item t u.0 h.is (subst P (sym u.1) l.same)); holds = l.holds };
        };
      }

  along : (n : ℕ) (x t : Node) → Below (closure_at k a) x t → LeadsOn k (Lasts k n) (place_in k.nodes t) a → LeadsOn k (Lasts k (suc n)) (place_in k.nodes x) a
  along n x t (one_step s) l = back n x t s l
  along n x t (more_steps {z = z} s b) l =
      back n x z s (leads_map k (Lasts k (suc n)) (Lasts k n) (place_in k.nodes z) a (λ i h w. shorter n i w) (along n z t b l))

  itself : (x t : Node) → Step (closure_at k a) x t → SameAt k a x x
  itself x t (by_arc h) = let y = classes_of a m in y.joined x h.from x h.start (y.turned x h.from h.start)
  itself x t (to_member h) = let y = classes_of a m in y.joined x h.set x h.same (y.turned x h.set h.same)

  starts_there : (x t : Node) → Below (closure_at k a) x t → SameAt k a x x
  starts_there x t (one_step s) = itself x _ s
  starts_there x t (more_steps s b) = itself x _ s

  -- on a cycle so many steps can be taken as one likes
  pub endless : (n : ℕ) (x : Node) → Below (closure_at k a) x x → LeadsOn k (Lasts k n) (place_in k.nodes x) a
  endless zero x b = let s = starts_there x x b in record { next = place_in k.nodes x; below = place_In k.nodes x (equal_known a x x m s).0; same = s; holds = tt }
  endless (suc n) x b = along n x x b (endless n x b)

pub acyclic_excludes : {c : Known} {k : Closed} (sets : List Set) (z : Set) → AreLasting k (length k.nodes) sets → Tells z (InSome sets IsOn) → (literals : List (Literal × Set)) → IsClosureOf c literals k
    → Excludes z (λ a. IsAcyclic (solution (holding literals a)))
acyclic_excludes {c} {k} sets z t u literals m = record {
  each = λ a.
      let some : IsClosure c k = record { literals = literals; is = m } in
      let y = closure_at k a in (
        (λ h x b.
            let l = endless some a (length k.nodes) x (below_like (solution (holding literals a)) y (alike_turned (m.alike a)) b) in
            let on = ((t.each l.next k.empty l.below).each a).1 l.holds in
            true_not_false ((u.each a).1 (record { item = get_or sets l.next k.empty; listed = In-at sets l.next k.empty (omega (arith, t.len, l.below)); holds = record { holds = on } })) h),
        (λ s. not_true (member z a) (λ w.
            let q = (u.each a).0 w in
            let p = In-place q.listed in
            let l : p.0 < length k.nodes = omega (arith, t.len, p.1) in
            let P : Set → Type 0 = λ v. member v a ≡ true in
            let g = cycle_of some a p.0 l (((t.each p.0 k.empty l).each a).0 (subst P (sym (p.2 k.empty)) q.holds.holds)) in
            s g.0 (below_like y (solution (holding literals a)) (m.alike a) g.1))),
      );
}

pub on_tells : (set : Set) → Tells set (IsOn set)
on_tells set = record { each = λ a. ((λ h. record { holds = h }), (λ s. s.holds)) }

pub steps_made : {c : Known} {k : Closed} → IsClosure c k → AreMade c (λ s. s.1) (steps_of k)
steps_made {c} {k} m = record {
  each = λ s i. elim (In-append_cases (map (arc_step k) k.arcs) (map (member_step k) k.members) i) [
    | inl p ↦ (let r = In_from_map (arc_step k) k.arcs p in let P : Move → Type 0 = λ v. IsMade c v.1 in subst P r.2 (m.is.made.arcs.each r.0 r.1))
    | inr p ↦ (let r = In_from_map (member_step k) k.members p in let P : Move → Type 0 = λ v. IsMade c v.1 in subst P r.2 (m.is.made.members.each r.0 r.1))
  ];
}

pub steps_within : {c : Known} {k : Closed} → IsClosure c k → AreWithin k (steps_of k)
steps_within m = record { each = λ a s i h. ends_of m a s i h }

pub copies_made : {c : Known} (sets : List Set) (set : Set) → ((x : Set) → In x sets → x ≡ set) → IsMade c set → AreMade c (λ s. s) sets
copies_made {c} sets set each m = record { each = λ x i. let P : Set → Type 0 = λ v. IsMade c v in subst P (sym (each x i)) m }

pub step_within : {k : Closed} (steps : List Move) (i : ℕ) (d : Move) → AreWithin k steps → i < length steps → d ≡ get_or steps i d → (a : Assignment) → member d.1 a ≡ true → (d.0.0 < length k.nodes) × (d.0.1 < length k.nodes)
step_within steps i d w h is a on = w.each a d (let P : Move → Type 0 = λ v. In v steps in subst P (sym is) (In-at steps i d h)) on

pub copies_more : (old new : List Set) (y set : Set) (n : ℕ) → new ≡ old ++ y ∷ [] → y ≡ set → length old ≡ n → ((x : Set) → In x old → x ≡ set) → (length new ≡ n + 1) × ((x : Set) → In x new → x ≡ set)
copies_more old new y set n e f len each = (
  ap length e ∙ length-append old (y ∷ []) ∙ ap (λ v. v + 1) len,
  λ x i. let P : List Set → Type 0 = λ v. In x v in elim (In-push_cases old y (subst P e i)) [ inl j ↦ each x j | inr g ↦ g ∙ f ],
)
