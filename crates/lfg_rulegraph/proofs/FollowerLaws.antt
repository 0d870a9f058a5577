-- Lists of followers, marks of ends, and the walks of their graph.
use Rattle.std.proofs.Common.{◌≡◌, ℕ, zero, suc, ◌+◌, ◌-◌, ◌<◌, ◌≤◌, Bool, true, false, IsTrue, Some, List, [], ◌∷◌, ◌++◌, Vec, Global, length, take, get_or, replicate, refl, sym, ap, subst, ◌∙◌, arith, inl, inr, ◌⊎◌, add-one}
use Rattle.std.specs.Prelude.{◌↔◌, slice_get}
use Rattle.std.specs.Ordering.{nat_cmp}
use Rattle.std.proofs.Math.ListN.{set}
use Rattle.std.proofs.lemmas.List.{take_more}
use Rattle.lfg_terms.specs.declared.grammar.Graph.{Graph}
use Rattle.lfg_model.specs.Derive.{Runs, Walks}
use Rattle.lfg_model.specs.Graphs.{AreItems}
use Rattle.lfg_model.specs.Lists.{In, here, Lists}
use Rattle.lfg_model.proofs.ListLaws.{In-nil, In-cons_cases, In-push_cases, In-append_left, In-append_right, In-take_more}
use Rattle.lfg_model.proofs.OneTree.{same_some}
use Rattle.lfg_rulegraph.specs.declared.part.Link.{Link}
use Rattle.lfg_rulegraph.specs.Tables.{Table, Linked, link, Goes, Reads, IsBetween, IsWithin}
use Rattle.lfg_rulegraph.specs.Followers.{IsAt, AreEmpty, Pushed, FollowersOf, AreSets, none, more, HasTable}

-- ---- lists of followers

pub empty_pushed : (lists : List (Vec ℕ Global)) (list : Vec ℕ Global) → list.items ≡ [] → AreEmpty lists → AreEmpty (lists ++ list ∷ [])
empty_pushed lists list e h = record { each = go lists h.each }
  where
    go : (xs : List (Vec ℕ Global)) → ((k p : ℕ) → ¬ IsAt xs k p) → (k p : ℕ) → ¬ IsAt (xs ++ list ∷ []) k p
    go [] n zero p i = In-nil (rw e at i)
    go [] n (suc k) p i = i
    go (x ∷ xs) n zero p i = n zero p i
    go (x ∷ xs) n (suc k) p i = go xs (λ j q. n (suc j) q) k p i

pub pushed : (lists : List (Vec ℕ Global)) (place item : ℕ) (old new : Vec ℕ Global) → place < length lists → old ≡ get_or lists place old → new.items ≡ old.items ++ item ∷ []
    → Pushed lists place item (set lists place new)
pushed lists place item old new l e i = record { each = λ k p. (there lists place l e k p, back lists place l e k p) }
  where
    there : (xs : List (Vec ℕ Global)) (place : ℕ) → place < length xs → old ≡ get_or xs place old → (k p : ℕ) → IsAt (set xs place new) k p → IsAt xs k p ⊎ ((k ≡ place) × (p ≡ item))
    there [] place l e k p h = absurd (omega arith)
    there (x ∷ xs) zero l e zero p h = elim (In-push_cases old.items item (rw i at h)) [
      | inl a ↦ inl (subst (λ (v : Vec ℕ Global). In p v.items) e a)
      | inr b ↦ inr (refl, b)
    ]
    there (x ∷ xs) zero l e (suc k) p h = inl h
    there (x ∷ xs) (suc place) l e zero p h = inl h
    there (x ∷ xs) (suc place) l e (suc k) p h = elim (there xs place (omega arith) e k p h) [ inl a ↦ inl a | inr b ↦ inr (ap suc b.0, b.1) ]

    back : (xs : List (Vec ℕ Global)) (place : ℕ) → place < length xs → old ≡ get_or xs place old → (k p : ℕ) → IsAt xs k p ⊎ ((k ≡ place) × (p ≡ item)) → IsAt (set xs place new) k p
    back [] place l e k p h = absurd (omega arith)
    back (x ∷ xs) zero l e zero p h = rw i (elim h [
      | inl a ↦ In-append_left (item ∷ []) (subst (λ (v : Vec ℕ Global). In p v.items) (sym e) a)
      | inr b ↦ In-append_right old.items (rw b.1 here)
    ])
    back (x ∷ xs) zero l e (suc k) p h = elim h [ inl a ↦ a | inr b ↦ absurd (omega (arith, b.0)) ]
    back (x ∷ xs) (suc place) l e zero p h = elim h [ inl a ↦ a | inr b ↦ absurd (omega (arith, b.0)) ]
    back (x ∷ xs) (suc place) l e (suc k) p h = back xs place (omega arith) e k p (elim h [ inl a ↦ inl a | inr b ↦ inr (omega (arith, b.0), b.1) ])

pub followers_none : (lists : List (Vec ℕ Global)) → AreEmpty lists → FollowersOf [] lists
followers_none lists h = record { each = λ k p. ((λ i. absurd (h.each k p i)), (λ i. In-nil i)) }

pub followers_more : (links : List Link) (i : ℕ) (d : Link) (old new : List (Vec ℕ Global)) → i < length links → 1 ≤ (get_or links i d).from
    → FollowersOf (take i links) old → Pushed old ((get_or links i d).from - 1) (get_or links i d).to new → FollowersOf (take (i + 1) links) new
followers_more links i d old new l b f h = record { each = λ k p. (there k p, back k p) }
  where
    the : Link
    the = get_or links i d

    there : (k p : ℕ) → IsAt new k p → In (link (k + 1) p) (take (i + 1) links)
    there k p a = subst (λ (ls : List Link). In (link (k + 1) p) ls) (sym (take_more links i d l)) (elim ((h.each k p).0 a) [
      | inl j ↦ In-append_left (the ∷ []) ((f.each k p).0 j)
      | inr e ↦
          let from : k + 1 ≡ the.from = omega (arith, e.0, b) in
          let same : link (k + 1) p ≡ the = λ j. link (from j) (e.1 j) in
          In-append_right (take i links) (subst (λ (x : Link). In (link (k + 1) p) (x ∷ [])) same here)
    ])

    back : (k p : ℕ) → In (link (k + 1) p) (take (i + 1) links) → IsAt new k p
    back k p a = elim (In-take_more links i d l a) [
      | inl j ↦ (h.each k p).1 (inl ((f.each k p).1 j))
      | inr e ↦ (h.each k p).1 (inr (omega (arith, ap (λ (x : Link). x.from) e), ap (λ (x : Link). x.to) e))
    ]

-- ---- sets of followers

pub sets_more : {lists : List (Vec ℕ Global)} {sets : List (List ℕ)} (list : Vec ℕ Global) (ps : List ℕ) → AreSets lists sets → Lists nat_cmp (λ p. In p list.items) ps
    → AreSets (lists ++ list ∷ []) (sets ++ ps ∷ [])
sets_more list ps none h = more h none
sets_more list ps (more a rest) h = more a (sets_more list ps rest h)

sets_length : {lists : List (Vec ℕ Global)} {sets : List (List ℕ)} → AreSets lists sets → length sets ≡ length lists
sets_length none = refl
sets_length (more a rest) = ap suc (sets_length rest)

abbrev InSome : List (List ℕ) → ℕ → ℕ → Type 0
InSome sets k p = (ps : List ℕ) × (slice_get sets k ≡ Some ps) × In p ps

in_set : {lists : List (Vec ℕ Global)} {sets : List (List ℕ)} → AreSets lists sets → (k p : ℕ) → InSome sets k p → IsAt lists k p
in_set none k p i = cc
in_set (more a rest) zero p i = (a.exact p).0 (subst (λ (ps : List ℕ). In p ps) (sym (same_some _ _ i.1)) i.2)
in_set (more a rest) (suc k) p i = in_set rest k p i

set_has : {lists : List (Vec ℕ Global)} {sets : List (List ℕ)} → AreSets lists sets → (k p : ℕ) → IsAt lists k p → InSome sets k p
set_has none k p i = absurd i
set_has (more {set = ps} a rest) zero p i = (ps, refl, (a.exact p).1 i)
set_has (more a rest) (suc k) p i = set_has rest k p i

-- each set is of items of which some list has each
sets_are : {lists : List (Vec ℕ Global)} {sets : List (List ℕ)} (size : ℕ) → AreSets lists sets → ((k p : ℕ) → IsAt lists k p → (1 ≤ p) × (p ≤ size))
    → (ps : List ℕ) → In ps sets → AreItems size ps
sets_are size none w ps i = In-nil i
sets_are size (more a rest) w ps i = elim (In-cons_cases i) [
  | inl e ↦ rw e (record { ascend = a.ascends; within = λ p j. w 0 p ((a.exact p).0 j) })
  | inr j ↦ sets_are size rest (λ k p h. w (suc k) p h) ps j
]

-- ---- marks

pub unmarked : (n k : ℕ) → slice_get (replicate n false) k ≡ Some true → ⊥
unmarked zero k e = cc
unmarked (suc n) zero e = cc
unmarked (suc n) (suc k) e = unmarked n k e

marked_at : (marks : List Bool) (place k : ℕ) → place < length marks → (slice_get (set marks place true) k ≡ Some true) ↔ ((slice_get marks k ≡ Some true) ⊎ (k ≡ place))
marked_at [] place k l = absurd (omega arith)
marked_at (m ∷ marks) zero zero l = ((λ e. inr refl), (λ h. refl))
marked_at (m ∷ marks) zero (suc k) l = ((λ e. inl e), (λ h. elim h [ inl a ↦ a | inr b ↦ absurd (omega (arith, b)) ]))
marked_at (m ∷ marks) (suc place) zero l = ((λ e. inl e), (λ h. elim h [ inl a ↦ a | inr b ↦ absurd (omega (arith, b)) ]))
marked_at (m ∷ marks) (suc place) (suc k) l =
    let r = marked_at marks place k (omega arith) in
    ((λ e. elim (r.0 e) [ inl a ↦ inl a | inr b ↦ inr (ap suc b) ]), (λ h. r.1 (elim h [ inl a ↦ inl a | inr b ↦ inr (omega (arith, b)) ])))

pub marks_more : (items : List ℕ) (i : ℕ) (marks : List Bool) → i < length items → 1 ≤ get_or items i 0 → get_or items i 0 ≤ length marks
    → ((k : ℕ) → (slice_get marks k ≡ Some true) ↔ In (k + 1) (take i items))
    → (k : ℕ) → (slice_get (set marks (get_or items i 0 - 1) true) k ≡ Some true) ↔ In (k + 1) (take (i + 1) items)
marks_more items i marks l b m h k = (there, back)
  where
    place : get_or items i 0 - 1 < length marks
    place = omega arith

    there : slice_get (set marks (get_or items i 0 - 1) true) k ≡ Some true → In (k + 1) (take (i + 1) items)
    there e = subst (λ (ps : List ℕ). In (k + 1) ps) (sym (take_more items i 0 l)) (elim ((marked_at marks (get_or items i 0 - 1) k place).0 e) [
      | inl a ↦ In-append_left (get_or items i 0 ∷ []) ((h k).0 a)
      | inr e ↦ let same : k + 1 ≡ get_or items i 0 = omega (arith, e, b) in In-append_right (take i items) (rw same here)
    ])

    back : In (k + 1) (take (i + 1) items) → slice_get (set marks (get_or items i 0 - 1) true) k ≡ Some true
    back j = (marked_at marks (get_or items i 0 - 1) k place).1 (elim (In-take_more items i 0 l j) [ inl a ↦ inl ((h k).1 a) | inr e ↦ inr (omega (arith, e)) ])

-- ---- the graph of a table

pub has_table : (items : ℕ) (t : Table) (lists : List (Vec ℕ Global)) (g : Graph) → IsWithin 0 items t → g.size ≡ items
    → Lists nat_cmp (λ p. In p t.first) g.first
    → length lists ≡ items → FollowersOf t.links lists → AreSets lists g.next
    → length g.last ≡ items → ((k : ℕ) → (slice_get g.last k ≡ Some true) ↔ In (k + 1) t.last)
    → HasTable items t g
has_table items t lists g w size first n f sets m last = record {
  size = size;
  form = record {
    next = sets_length sets ∙ n ∙ sym size;
    last = m ∙ sym size;
    begin = record { ascend = first.ascends; within = λ p i. item p (w.first p ((first.exact p).0 i)) };
    follow = sets_are g.size sets (λ k p i. item p (w.after (k + 1) p ((f.each k p).0 i)));
  };
  first = first.exact;
  follow = λ k p. ((λ i. (f.each k p).0 (in_set sets k p i)), (λ i. set_has sets k p ((f.each k p).1 i)));
  end = last;
}
  where
    item : (p : ℕ) → IsBetween 0 items p → (1 ≤ p) × (p ≤ g.size)
    item p b = (omega (arith, b.behind), omega (arith, b.among, size))

module _ (items : ℕ) (t : Table) (g : Graph) (w : IsWithin 0 items t) (h : HasTable items t g) where
  runs_from : (q : ℕ) (rest : List ℕ) → IsBetween 0 items q → Goes t q rest → Runs g q rest
  runs_from zero rest b r = absurd (omega (arith, b.behind))
  runs_from (suc k) [] b r = (h.end k).1 (rw add-one r)
  runs_from (suc k) (p ∷ rest) b r = ((h.follow k p).1 (rw add-one r.0), runs_from p rest (w.after (suc k) p r.0) r.1)

  goes_from : (q : ℕ) (rest : List ℕ) → IsBetween 0 items q → Runs g q rest → Goes t q rest
  goes_from zero rest b r = absurd (omega (arith, b.behind))
  goes_from (suc k) [] b r = rw add-one at (h.end k).0 r
  goes_from (suc k) (p ∷ rest) b r =
      let l : Linked t (suc k) p = rw add-one at (h.follow k p).0 r.0 in
      (l, goes_from p rest (w.after (suc k) p l) r.1)

  -- the graph walks what the table reads, where that is not the empty row
  pub walks_read : ¬ IsTrue t.empty → (row : List ℕ) → Walks g row ↔ Reads t row
  walks_read n [] = ((λ r. absurd r), n)
  walks_read n (p ∷ rest) = (
    (λ r. let i = (h.first p).0 r.0 in (i, goes_from p rest (w.first p i) r.1)),
    (λ r. ((h.first p).1 r.0, runs_from p rest (w.first p r.0) r.1)),
  )
