-- Facts in order, each once with the union of its sets.
use Rattle.std.proofs.Common.{◌≡◌, ◌≢◌, ℕ, zero, suc, ◌+◌, ◌<◌, ◌≤◌, Bool, true, false, ◌||◌, ◌⊎◌, inl, inr, List, [], ◌∷◌, ◌++◌, length, map, get_or, take, refl, sym, ◌∙◌, ap, subst, arith, Ordering, Less, Equal, Greater, Bor}
use Rattle.std.specs.Prelude.{slice_set}
use Rattle.std.specs.List.{AllByRecursion}
use Rattle.std.specs.List.Sorted.{IsStrictlySortedBy, IsSortedBy, IsPermutation}
use Rattle.std.specs.Cmp.{IsStrictWeakOrder}
use Rattle.std.specs.Fn.{Called, ComparesAs, Mut}
use Rattle.std.proofs.lemmas.Fn.{always_returns_same}
use Rattle.std.specs.Ordering.{is_lt, ordering_reverse}
use Rattle.std.proofs.lemmas.List.{map-append, take_more, take_all, length-take-le, get_or-take, length_push, get_or_push}
use Rattle.std.proofs.lemmas.Option.{same_Some, slice_get-get_or}
use Rattle.std.proofs.lemmas.List.Sorted.{sorted_far, ranks_by, Contains-permutation, IsPermutation-sym}
use Rattle.lfg_terms.specs.Order.{fact_cmp}
use Rattle.lfg_terms.specs.OrderLaws.{fact_cmp_total}
use Rattle.lfg_terms.proofs.Ties.{fact_ties}
use Rattle.lfg_terms.specs.declared.node.Fact.{Fact}
use Rattle.lfg_model.specs.Lists.{In, here, later}
use Rattle.lfg_model.proofs.Ascending.{all_in}
use Rattle.lfg_model.proofs.ListLaws.{In-nil, In-map, In_from_map, In-push, In-push_cases, In-append_left, In-cons_cases, In-place, In-take, Contains_from_In, In_from_Contains}
use Rattle.lfg_context.specs.Seen.{Set, Known}
use Rattle.lfg_context.specs.Sets.{Assignment, member, IsMade}
use Rattle.lfg_context.proofs.Telling.{or_true, or_left, or_right, In-take_one, In-take_last}
use Rattle.lfg_unify.specs.Holding.{Stated}
use Rattle.lfg_facts.specs.Stating.{Entries, AreEntries}
use Rattle.lfg_facts.specs.Merging.{IsSortedByFact, IsOther, IsWider, Puts, IsMerged}
use Rattle.lfg_facts.proofs.Classes.{entries_push}
use Rattle.lfg_facts.proofs.AddLaws.{stated_push}

-- each fact of the list is one of the entries
pub record StandIn (entries facts : Entries) : Type 0 where
  pub each : (e : Fact × Set) → In e facts → (s : Fact × Set) × In s entries × (s.0 ≡ e.0)

-- ---- lists that ascend

module _ {X : Type 0} (cmp : X → X → Ordering) where
  pub sorted_push : (xs : List X) (y : X) → IsStrictlySortedBy cmp xs → ((x : X) → In x xs → cmp x y ≡ Less) → IsStrictlySortedBy cmp (xs ++ y ∷ [])
  unfolding IsStrictlySortedBy
  sorted_push [] y s below = (tt, tt)
  sorted_push (x ∷ xs) y s below = (all_push xs s.0 (below x here), sorted_push xs y s.1 (λ z i. below z (later i)))
    where
      all_push : (zs : List X) → AllByRecursion (λ z. cmp x z ≡ Less) zs → cmp x y ≡ Less → AllByRecursion (λ z. cmp x z ≡ Less) (zs ++ y ∷ [])
      all_push [] t l = (l, tt)
      all_push (z ∷ zs) t l = (t.0, all_push zs t.1 l)

  pub before_last : (xs : List X) (y x : X) → IsStrictlySortedBy cmp (xs ++ y ∷ []) → In x xs → cmp x y ≡ Less
  unfolding IsStrictlySortedBy
  before_last [] y x s i = In-nil i
  before_last (z ∷ zs) y x s i = elim (In-cons_cases i) [
    | inl e ↦ (let P : X → Type 0 = λ v. cmp v y ≡ Less in subst P (sym e) (all_in (λ w. cmp z w ≡ Less) s.0 (In-push zs y)))
    | inr j ↦ before_last zs y x s.1 j
  ]

  pub sorted_nil : IsStrictlySortedBy cmp []
  unfolding IsStrictlySortedBy
  sorted_nil = tt

-- nothing, or a last element
pub last_of : {X : Type 0} (xs : List X) → (xs ≡ []) ⊎ ((front : List X) × (last : X) × (xs ≡ front ++ last ∷ []))
last_of [] = inl refl
last_of (x ∷ xs) = elim (last_of xs) [
  | inl e ↦ inr ([], x, ap (λ ys. x ∷ ys) e)
  | inr s ↦ inr (x ∷ s.0, s.1, ap (λ ys. x ∷ ys) s.2)
]

-- ---- what is put behind

pub merged_none : IsMerged [] []
merged_none = record { ascends = sorted_nil fact_cmp; each = λ a f. ((λ s. s), λ s. s) }

pub stand_none : StandIn [] []
stand_none = record { each = λ e i. In-nil i }

module _ (entries : Entries) (n : ℕ) (d : Fact × Set) (old new : Entries) (l : n < length entries) (at : d ≡ get_or entries n d) where
  abbrev next : take (n + 1) entries ≡ take n entries ++ d ∷ []
  next = take_more entries n d l ∙ ap (λ v. take n entries ++ v ∷ []) (sym at)

  pub stand_more : StandIn (take n entries) old → Puts old d new → StandIn (take (n + 1) entries) new
  stand_more s p = record { each = λ e i. elim p.either [ inl q ↦ pushed e q.1 i | inr w ↦ widened e w i ] }
    where
      kept : (e : Fact × Set) → In e old → (s : Fact × Set) × In s (take (n + 1) entries) × (s.0 ≡ e.0)
      kept e i = let r = s.each e i in (r.0, In-take_one entries n d l r.1, r.2)

      last : In d (take (n + 1) entries)
      last = let P : (Fact × Set) → Type 0 = λ v. In v (take (n + 1) entries) in subst P (sym at) (In-take_last entries n d l)

      pushed : (e : Fact × Set) → new ≡ old ++ d ∷ [] → In e new → (s : Fact × Set) × In s (take (n + 1) entries) × (s.0 ≡ e.0)
      pushed e is i = elim (In-push_cases old d (rw is at i)) [
        | inl j ↦ kept e j
        | inr same ↦ (d, last, sym (ap (λ (v : Fact × Set). v.0) same))
      ]

      widened : (e : Fact × Set) → IsWider old d new → In e new → (s : Fact × Set) × In s (take (n + 1) entries) × (s.0 ≡ e.0)
      widened e w i = elim (In-push_cases w.front (d.0, w.wide) (rw w.is at i)) [
        | inl j ↦ kept e (let P : Entries → Type 0 = λ v. In e v in subst P (sym w.was) (In-append_left ((d.0, w.narrow) ∷ []) j))
        | inr same ↦ (d, last, sym (ap (λ (v : Fact × Set). v.0) same))
      ]

  -- no fact so far is behind the entry
  not_behind : IsSortedByFact entries → StandIn (take n entries) old → (e : Fact × Set) → In e old → is_lt (fact_cmp d.0 e.0) ≡ false
  not_behind sorted s e i =
      let r = s.each e i in
      let p = In-place r.1 in
      let below : p.0 < n = bound p.0 p.1 in
      let same : get_or entries p.0 d ≡ r.0 = sym (get_or-take n entries p.0 d below) ∙ p.2 d in
      let far = sorted_far (λ x y. is_lt (fact_cmp x.0 y.0)) (ranks_by fact_cmp_total (λ (v : Fact × Set). v.0)) entries sorted p.0 n d (omega (arith, below)) l in
      let first : (get_or entries p.0 d).0 ≡ e.0 = ap (λ (v : Fact × Set). v.0) same ∙ r.2 in
      ap (λ (v : Fact × Set). is_lt (fact_cmp v.0 e.0)) at ∙ ap (λ f. is_lt (fact_cmp (get_or entries n d).0 f)) (sym first) ∙ far
    where
      bound : (m : ℕ) → m < length (take n entries) → m < n
      bound m h = (let e = length-take-le n entries (omega (arith, l)) in omega (arith, h, e))

  below_entry : IsSortedByFact entries → StandIn (take n entries) old → IsStrictlySortedBy fact_cmp (map (λ e. e.0) old) → IsOther old d.0 → (f : Fact) → In f (map (λ e. e.0) old) → fact_cmp f d.0 ≡ Less
  below_entry sorted s up other f i =
      let e = In_from_map (λ (v : Fact × Set). v.0) old i in
      let P : Fact → Type 0 = λ v. fact_cmp v d.0 ≡ Less in
      subst P e.2 (by_order e.0 e.1 (fact_cmp e.0.0 d.0) refl)
    where
      not_equal : (e : Fact × Set) → In e old → e.0 ≢ d.0
      not_equal e i same = elim (last_of old) [
        | inl none ↦ (let Q : Entries → Type 0 = λ v. In e v in In-nil (subst Q none i))
        | inr w ↦ elim (In-push_cases w.0 w.1 (rw w.2 at i)) [
          | inl j ↦
              let sorted_last : IsStrictlySortedBy fact_cmp (map (λ e. e.0) w.0 ++ w.1.0 ∷ []) = subst (λ v. IsStrictlySortedBy fact_cmp v) (ap (map (λ e. e.0)) w.2 ∙ map-append (λ e. e.0) w.0 (w.1 ∷ [])) up in
              let less = before_last fact_cmp (map (λ e. e.0) w.0) w.1.0 e.0 sorted_last (In-map (λ (v : Fact × Set). v.0) j) in
              let last_in : In w.1 old = (let Q : Entries → Type 0 = λ v. In w.1 v in subst Q (sym w.2) (In-push w.0 w.1)) in
              let not_less = not_behind sorted s w.1 last_in in
              let no : true ≡ false = sym (ap is_lt (ap (λ v. fact_cmp v w.1.0) (sym same) ∙ less)) ∙ not_less in
              absurd (cc)
          | inr is ↦ other.each w.0 w.1 w.2 (sym (ap (λ (v : Fact × Set). v.0) is) ∙ same)
        ]
      ]

      by_order : (e : Fact × Set) → In e old → (o : Ordering) → fact_cmp e.0 d.0 ≡ o → fact_cmp e.0 d.0 ≡ Less
      by_order e i Less h = h
      by_order e i Equal h = absurd (not_equal e i (fact_ties e.0 d.0 h))
      by_order e i Greater h =
          let turned : fact_cmp d.0 e.0 ≡ Less = fact_cmp_total.antisymm d.0 e.0 ∙ ap ordering_reverse h in
          let no : true ≡ false = sym (ap is_lt turned) ∙ not_behind sorted s e i in
          absurd (cc)

  pub merged_more : IsSortedByFact entries → StandIn (take n entries) old → IsMerged (take n entries) old → Puts old d new → IsMerged (take (n + 1) entries) new
  merged_more sorted s merged p = record {
    ascends = elim p.either [
      | inl q ↦ subst (λ v. IsStrictlySortedBy fact_cmp v) (sym (ap (map (λ e. e.0)) q.1 ∙ map-append (λ e. e.0) old (d ∷ [])))
          (sorted_push fact_cmp (map (λ e. e.0) old) d.0 merged.ascends (below_entry sorted s merged.ascends q.0))
      | inr w ↦ subst (λ v. IsStrictlySortedBy fact_cmp v)
          (ap (map (λ e. e.0)) w.was ∙ map-append (λ e. e.0) w.front ((d.0, w.narrow) ∷ []) ∙ sym (ap (map (λ e. e.0)) w.is ∙ map-append (λ e. e.0) w.front ((d.0, w.wide) ∷ []))) merged.ascends
    ];
    each = λ a f. (
      (λ h. stated a f (elim p.either [ inl q ↦ forth_push a f q.1 h | inr w ↦ forth_wide a f w h ])),
      (λ h. elim p.either [ inl q ↦ back_push a f q.1 (unstated a f h) | inr w ↦ back_wide a f w (unstated a f h) ]),
    );
  }
    where
      stated : (a : Assignment) (f : Fact) → Stated old a f ⊎ ((f ≡ d.0) × (member d.1 a ≡ true)) → Stated (take (n + 1) entries) a f
      stated a f h = let Q : Entries → Type 0 = λ v. Stated v a f in subst Q (sym next) ((stated_push (take n entries) d.0 d.1 a f).1 (elim h [ inl o ↦ inl ((merged.each a f).0 o) | inr q ↦ inr q ]))

      unstated : (a : Assignment) (f : Fact) → Stated (take (n + 1) entries) a f → Stated old a f ⊎ ((f ≡ d.0) × (member d.1 a ≡ true))
      unstated a f h = let Q : Entries → Type 0 = λ v. Stated v a f in elim ((stated_push (take n entries) d.0 d.1 a f).0 (subst Q next h)) [ inl o ↦ inl ((merged.each a f).1 o) | inr q ↦ inr q ]

      forth_push : (a : Assignment) (f : Fact) → new ≡ old ++ d ∷ [] → Stated new a f → Stated old a f ⊎ ((f ≡ d.0) × (member d.1 a ≡ true))
      forth_push a f is h = let Q : Entries → Type 0 = λ v. Stated v a f in (stated_push old d.0 d.1 a f).0 (subst Q is h)

      back_push : (a : Assignment) (f : Fact) → new ≡ old ++ d ∷ [] → Stated old a f ⊎ ((f ≡ d.0) × (member d.1 a ≡ true)) → Stated new a f
      back_push a f is h = let Q : Entries → Type 0 = λ v. Stated v a f in subst Q (sym is) ((stated_push old d.0 d.1 a f).1 h)

      forth_wide : (a : Assignment) (f : Fact) → IsWider old d new → Stated new a f → Stated old a f ⊎ ((f ≡ d.0) × (member d.1 a ≡ true))
      forth_wide a f w h =
          let Q : Entries → Type 0 = λ v. Stated v a f in
          let was : Stated w.front a f ⊎ ((f ≡ d.0) × (member w.narrow a ≡ true)) → Stated old a f = λ g. subst Q (sym w.was) ((stated_push w.front d.0 w.narrow a f).1 g) in
          elim ((stated_push w.front d.0 w.wide a f).0 (subst Q w.is h)) [
            | inl o ↦ inl (was (inl o))
            | inr q ↦ elim (or_true (member w.narrow a) (member d.1 a) (sym (w.members a) ∙ q.1)) [
              | inl t ↦ inl (was (inr (q.0, t)))
              | inr t ↦ inr (q.0, t)
            ]
          ]

      back_wide : (a : Assignment) (f : Fact) → IsWider old d new → Stated old a f ⊎ ((f ≡ d.0) × (member d.1 a ≡ true)) → Stated new a f
      back_wide a f w h =
          let Q : Entries → Type 0 = λ v. Stated v a f in
          let is : Stated w.front a f ⊎ ((f ≡ d.0) × (member w.wide a ≡ true)) → Stated new a f = λ g. subst Q (sym w.is) ((stated_push w.front d.0 w.wide a f).1 g) in
          elim h [
            | inl o ↦ elim ((stated_push w.front d.0 w.narrow a f).0 (subst Q w.was o)) [
              | inl g ↦ is (inl g)
              | inr q ↦ is (inr (q.0, w.members a ∙ or_left (member w.narrow a) (member d.1 a) q.1))
            ]
            | inr q ↦ is (inr (q.0, w.members a ∙ or_right (member w.narrow a) (member d.1 a) q.1))
          ]

pub merged_all : (entries facts : Entries) (n : ℕ) → length entries ≤ n → IsMerged (take n entries) facts → IsMerged entries facts
merged_all entries facts n h m = subst (λ (v : Entries). IsMerged v facts) (take_all n entries h) m

-- ---- the same entries in another order

pub from_permuted : (es fs : Entries) (e : Fact × Set) → IsPermutation es fs → In e fs → In e es
from_permuted es fs e p i = In_from_Contains es e (Contains-permutation fs es e (IsPermutation-sym es fs p) (Contains_from_In i))

pub permuted_entries : {c : Known} (es fs : Entries) → IsPermutation es fs → AreEntries c es → AreEntries c fs
permuted_entries es fs p m = record { each = λ e i. m.each e (from_permuted es fs e p i) }

pub permuted_merged : (es fs facts : Entries) → IsPermutation es fs → IsMerged fs facts → IsMerged es facts
permuted_merged es fs facts p m = record {
  ascends = m.ascends;
  each = λ a f. (
    (λ h. let s = (m.each a f).0 h in record { set = s.set; listed = from_permuted es fs (f, s.set) p s.listed; holds = s.holds }),
    (λ s. (m.each a f).1 (record { set = s.set; listed = from_permuted fs es (f, s.set) (IsPermutation-sym es fs p) s.listed; holds = s.holds })),
  );
}

-- the clause `sorted` of `sort_by`, where each call compares the facts of the two entries
pub sorted_from : {F : Type 0} {g : Mut F (Bor (Fact × Set) × (Bor (Fact × Set) × Unit {0})) Ordering} {f : F} (xs : Entries)
    → ((lt : Fact × Set → Fact × Set → Bool) → IsStrictWeakOrder lt → ComparesAs g lt f → IsSortedBy lt xs)
    → ((a : Bor (Fact × Set) × (Bor (Fact × Set) × Unit {0})) (r : Ordering) (f' : F) → Called g f a r f' → (r ≡ fact_cmp a.0.now.0 a.1.0.now.0) × (f' ≡ f)) → IsSortedByFact xs
sorted_from {g = g} {f = f} xs up h = up (λ x y. is_lt (fact_cmp x.0 y.0)) (ranks_by fact_cmp_total (λ (v : Fact × Set). v.0))
    (always_returns_same g (λ a r. is_lt r ≡ is_lt (fact_cmp a.0.now.0 a.1.0.now.0)) f (λ a r f' k. (ap is_lt (h a r f' k).0, (h a r f' k).1)))

-- ---- the last entry

last_split : {X : Type 0} (xs : List X) (n : ℕ) (d : X) → length xs ≡ n + 1 → xs ≡ take n xs ++ get_or xs n d ∷ []
last_split xs n d e = sym (take_all (n + 1) xs (omega (arith, e))) ∙ take_more xs n d (omega (arith, e))

last_set : {X : Type 0} (xs : List X) (n : ℕ) (y : X) → length xs ≡ n + 1 → slice_set xs n y ≡ take n xs ++ y ∷ []
last_set [] n y e = absurd (omega (arith, e))
last_set (x ∷ []) zero y e = refl
last_set (x ∷ z ∷ zs) zero y e = absurd (omega (arith, e))
last_set (x ∷ xs) (suc n) y e = ap (λ ys. x ∷ ys) (last_set xs n y (omega (arith, e)))

one_at : {X : Type 0} (xs : List X) (n : ℕ) (x y : X) → n < length xs → x ≡ get_or xs n x → y ≡ get_or xs n y → x ≡ y
one_at xs n x y l h g = h ∙ same_Some (get_or xs n x) (get_or xs n y) (sym (slice_get-get_or xs n x l) ∙ slice_get-get_or xs n y l) ∙ sym g

module _ (xs : Entries) (e : Fact × Set) where
  pub other_none : length xs ≡ 0 → IsOther xs e.0
  other_none none = record { each = λ front last is same. (let l = ap length is in let m = length_push front last in absurd (omega (arith, l, m, none))) }

  pub other_last : (n : ℕ) (d : Fact × Set) → length xs ≡ n + 1 → d ≡ get_or xs n d → d.0 ≢ e.0 → IsOther xs e.0
  other_last n d len at apart = record {
    each = λ front last is same.
        let count : length front ≡ n = (let l = ap length is in let m = length_push front last in omega (arith, l, m, len)) in
        let there : get_or xs n d ≡ last = ap (λ ys. get_or ys n d) is ∙ get_or_push front last d n count in
        apart (ap (λ (v : Fact × Set). v.0) (at ∙ there) ∙ same);
  }

  pub puts_pushed : (f : Fact) (z : Set) (new : Entries) → IsOther xs e.0 → f ≡ e.0 → z ≡ e.1 → new ≡ xs ++ (f, z) ∷ [] → Puts xs e new
  puts_pushed f z new other same is at = record {
    either = inl (other, at ∙ ap (λ v. xs ++ (v, z) ∷ []) same ∙ ap (λ v. xs ++ (e.0, v) ∷ []) is);
  }

  module _ (n : ℕ) (first old changed : Fact × Set) (wide : Set) (len : length xs ≡ n + 1) (at : first ≡ get_or xs n first) (there : old ≡ get_or xs n old) (is : changed ≡ get_or xs n changed) where
    pub puts_wider : first.0 ≡ e.0 → ((a : Assignment) → member wide a ≡ (member old.1 a || member e.1 a)) → Puts xs e (slice_set xs n (changed.0, wide))
    puts_wider same members = record {
      either = inr (record {
        front = take n xs;
        narrow = old.1;
        wide = wide;
        was = last_split xs n old len ∙ ap (λ v. take n xs ++ v ∷ []) (sym there) ∙ ap (λ v. take n xs ++ (v, old.1) ∷ []) (ap (λ (v : Fact × Set). v.0) (one_at xs n old first within there at) ∙ same);
        is = last_set xs n (changed.0, wide) len ∙ ap (λ v. take n xs ++ (v, wide) ∷ []) (ap (λ (v : Fact × Set). v.0) (one_at xs n changed first within is at) ∙ same);
        members = members;
      });
    }
      where
        within : n < length xs
        within = omega (arith, len)

pub wider_entries : {c : Known} (xs : Entries) (e : Fact × Set) (n : ℕ) (f : Fact) (old wide : Set) → length xs ≡ n + 1 → AreEntries c xs → IsMade c wide → (a : Assignment) × (member e.1 a ≡ true)
    → ((a : Assignment) → member wide a ≡ (member old a || member e.1 a)) → AreEntries c (slice_set xs n (f, wide))
wider_entries {c} xs e n f old wide len m made some members =
    let P : Entries → Type 0 = λ es. AreEntries c es in
    subst P (sym (last_set xs n (f, wide) len))
    (entries_push (f, wide) (record { each = λ d i. m.each d (In-take n xs i) }) made (some.0, members some.0 ∙ or_right (member old some.0) (member e.1 some.0) some.1))
