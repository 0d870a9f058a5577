-- The places of the edges, points, items and facts of a sentence: each has one.
use Rattle.std.proofs.Common.{◌≡◌, ℕ, zero, suc, ◌+◌, ◌<◌, ◌≤◌, inl, inr, Some, List, [], ◌∷◌, ◌++◌, length, map, slice_get, refl, sym, ap, subst, ◌∙◌, arith, Ordering, Less}
use Rattle.std.specs.Cmp.{IsTotalOrder}
use Rattle.std.specs.List.Sorted.{IsStrictlySortedBy}
use Rattle.std.proofs.lemmas.Option.{same_Some}
use Rattle.lfg_terms.specs.Order.{edge_cmp, fact_cmp}
use Rattle.lfg_terms.specs.OrderLaws.{edge_cmp_total, fact_cmp_total}
use Rattle.lfg_terms.specs.declared.node.Edge.{Edge}
use Rattle.lfg_terms.specs.declared.node.Fact.{Fact}
use Rattle.lfg_terms.specs.declared.grammar.Grammar.{Grammar}
use Rattle.lfg_terms.specs.declared.tree.TokenForms.{TokenForms}
use Rattle.lfg_chart.specs.Chart.{ChartForm}
use Rattle.lfg_model.specs.declared.point.Point.{Point}
use Rattle.lfg_model.specs.Charts.{points_of}
use Rattle.lfg_model.specs.Lists.{In, Once, none, more}
use Rattle.lfg_model.specs.Points.{point_cmp, point_cmp_total}
use Rattle.lfg_model.proofs.Ascending.{all_in, once_from_total}
use Rattle.lfg_model.proofs.EdgesOnce.{Once-append}
use Rattle.lfg_model.proofs.ListLaws.{In-append_cases, In_from_map}
use Rattle.lfg_packed.specs.declared.key.ChoiceKey.{ChoiceKey}
use Rattle.lfg_packed.specs.ChoicePoints.{key_cmp}
use Rattle.lfg_packed.specs.KeyLaws.{key_cmp_total}
use Rattle.lfg_packed.proofs.Listing.{get_In}
use Rattle.lfg_instant.specs.Ways.{Thing, TheEdge, ThePoint, TheSite, TheFact, things_of}

-- ---- places in lists

pub once_place : {X : Type 0} (xs : List X) → Once xs → (j k : ℕ) (x : X) → slice_get xs j ≡ Some x → slice_get xs k ≡ Some x → j ≡ k
once_place [] o j k x p q = cc
once_place (z ∷ xs) o zero zero x p q = refl
once_place {X} (z ∷ xs) (more n o) zero (suc k) x p q = absurd (n (let P : X → Type 0 = λ y. In y xs in subst P (sym (same_Some z x p)) (get_In xs k x q)))
once_place {X} (z ∷ xs) (more n o) (suc j) zero x p q = absurd (n (let P : X → Type 0 = λ y. In y xs in subst P (sym (same_Some z x q)) (get_In xs j x p)))
once_place (z ∷ xs) (more n o) (suc j) (suc k) x p q = ap suc (once_place xs o j k x p q)

pub get_front : {X : Type 0} (xs ys : List X) (i : ℕ) (x : X) → slice_get xs i ≡ Some x → slice_get (xs ++ ys) i ≡ Some x
get_front [] ys i x e = cc
get_front (y ∷ xs) ys zero x e = e
get_front (y ∷ xs) ys (suc i) x e = get_front xs ys i x e

pub get_behind : {X : Type 0} (xs ys : List X) (i j : ℕ) (x : X) → j ≡ length xs + i → slice_get ys i ≡ Some x → slice_get (xs ++ ys) j ≡ Some x
get_behind {X} [] ys i j x h e = let same : j ≡ i = omega (arith, h) in (let P : ℕ → Type 0 = λ k. slice_get ys k ≡ Some x in subst P (sym same) e)
get_behind (y ∷ xs) ys i zero x h e = let no : ⊥ = omega (arith, h) in absurd no
get_behind (y ∷ xs) ys i (suc j) x h e = get_behind xs ys i j x (omega (arith, h)) e

pub get_map : {X Y : Type 0} (f : X → Y) (xs : List X) (i : ℕ) (x : X) → slice_get xs i ≡ Some x → slice_get (map f xs) i ≡ Some (f x)
get_map f [] i x e = cc
get_map f (y ∷ xs) zero x e = ap (λ z. Some (f z)) (same_Some y x e)
get_map f (y ∷ xs) (suc i) x e = get_map f xs i x e

pub length_map : {X Y : Type 0} (f : X → Y) (xs : List X) → length (map f xs) ≡ length xs
length_map f [] = refl
length_map f (x ∷ xs) = ap suc (length_map f xs)

-- ---- lists without repeats

once_sorted : {X : Type 0} (cmp : X → X → Ordering) → IsTotalOrder cmp → (xs : List X) → IsStrictlySortedBy cmp xs → Once xs
unfolding IsStrictlySortedBy
once_sorted cmp total [] s = none
once_sorted cmp total (x ∷ xs) s = more (λ h. let l = all_in (λ y. cmp x y ≡ Less) s.0 h in once_from_total total x x l l) (once_sorted cmp total xs s.1)

once_map : {X Y : Type 0} (f : X → Y) → ((x y : X) → f x ≡ f y → x ≡ y) → (xs : List X) → Once xs → Once (map f xs)
once_map f one [] o = none
once_map {X} f one (x ∷ xs) (more n o) = more (λ i. let r = In_from_map f xs i in n (let P : X → Type 0 = λ y. In y xs in subst P (one r.0 x r.2) r.1)) (once_map f one xs o)

-- ---- things

abbrev edge_in_thing : Edge → Thing → Edge
edge_in_thing d (TheEdge e) = e
edge_in_thing d _ = d

abbrev point_in_thing : Point → Thing → Point
point_in_thing d (ThePoint p) = p
point_in_thing d _ = d

abbrev key_in_thing : ChoiceKey → Thing → ChoiceKey
key_in_thing d (TheSite k) = k
key_in_thing d _ = d

abbrev fact_in_thing : Fact → Thing → Fact
fact_in_thing d (TheFact f) = f
fact_in_thing d _ = d

pub same_edge : (e f : Edge) → TheEdge e ≡ TheEdge f → e ≡ f
same_edge e f h = ap (edge_in_thing e) h

pub same_point : (p q : Point) → ThePoint p ≡ ThePoint q → p ≡ q
same_point p q h = ap (point_in_thing p) h

pub same_key : (k l : ChoiceKey) → TheSite k ≡ TheSite l → k ≡ l
same_key k l h = ap (key_in_thing k) h

pub same_fact : (f h : Fact) → TheFact f ≡ TheFact h → f ≡ h
same_fact f h e = ap (fact_in_thing f) e

-- what kind of thing it is
abbrev kind : Thing → ℕ
kind (TheEdge e) = 0
kind (ThePoint p) = 1
kind (TheSite k) = 2
kind (TheFact f) = 3

kind_of_map : {X : Type 0} (f : X → Thing) (n : ℕ) → ((x : X) → kind (f x) ≡ n) → (xs : List X) (t : Thing) → In t (map f xs) → kind t ≡ n
kind_of_map f n same xs t i = let r = In_from_map f xs i in sym (ap kind r.2) ∙ same r.0

module _ (chart : ChartForm) (keys : List ChoiceKey) (facts : List Fact) where
  abbrev behind_sites : List Thing
  behind_sites = map TheFact facts

  abbrev behind_points : List Thing
  behind_points = map TheSite keys ++ behind_sites

  abbrev behind_edges : List Thing
  behind_edges = map ThePoint (points_of chart.forks) ++ behind_points

  late_facts : (t : Thing) → In t behind_sites → kind t ≡ 3
  late_facts t i = kind_of_map TheFact 3 (λ x. refl) facts t i

  late_sites : (t : Thing) → In t behind_points → 2 ≤ kind t
  late_sites t i = elim (In-append_cases (map TheSite keys) behind_sites i) [
    | inl a ↦ (let e = kind_of_map TheSite 2 (λ x. refl) keys t a in omega (arith, e))
    | inr b ↦ (let e = late_facts t b in omega (arith, e))
  ]

  late_points : (t : Thing) → In t behind_edges → 1 ≤ kind t
  late_points t i = elim (In-append_cases (map ThePoint (points_of chart.forks)) behind_points i) [
    | inl a ↦ (let e = kind_of_map ThePoint 1 (λ x. refl) (points_of chart.forks) t a in omega (arith, e))
    | inr b ↦ (let e = late_sites t b in omega (arith, e))
  ]

  pub once_things : Once chart.edges → Once (points_of chart.forks) → Once keys → Once facts → Once (things_of chart keys facts)
  once_things oe op ok of_facts =
      Once-append (map TheEdge chart.edges) behind_edges (once_map TheEdge same_edge chart.edges oe)
      (Once-append (map ThePoint (points_of chart.forks)) behind_points (once_map ThePoint same_point (points_of chart.forks) op)
      (Once-append (map TheSite keys) behind_sites (once_map TheSite same_key keys ok) (once_map TheFact same_fact facts of_facts)
      (λ t i j. let e = kind_of_map TheSite 2 (λ x. refl) keys t i in let l = late_facts t j in apart 2 3 (kind t) e (omega (arith, l)) (omega arith)))
      (λ t i j. let e = kind_of_map ThePoint 1 (λ x. refl) (points_of chart.forks) t i in let l = late_sites t j in apart 1 2 (kind t) e l (omega arith)))
      (λ t i j. let e = kind_of_map TheEdge 0 (λ x. refl) chart.edges t i in let l = late_points t j in apart 0 1 (kind t) e l (omega arith))
    where
      apart : (m n k : ℕ) → k ≡ m → n ≤ k → m < n → ⊥
      apart m n k e l h = omega (arith, e, l, h)

  -- the places of things
  pub edge_place : (i : ℕ) (e : Edge) → slice_get chart.edges i ≡ Some e → slice_get (things_of chart keys facts) i ≡ Some (TheEdge e)
  edge_place i e h = get_front (map TheEdge chart.edges) behind_edges i (TheEdge e) (get_map TheEdge chart.edges i e h)

  pub point_place : (i j : ℕ) (p : Point) → j ≡ length chart.edges + i → slice_get (points_of chart.forks) i ≡ Some p → slice_get (things_of chart keys facts) j ≡ Some (ThePoint p)
  point_place i j p e h =
      get_behind (map TheEdge chart.edges) behind_edges i j (ThePoint p) (let l = length_map TheEdge chart.edges in omega (arith, e, l))
      (get_front (map ThePoint (points_of chart.forks)) behind_points i (ThePoint p) (get_map ThePoint (points_of chart.forks) i p h))

  pub site_place : (i j : ℕ) (k : ChoiceKey) → j ≡ length chart.edges + length (points_of chart.forks) + i → slice_get keys i ≡ Some k → slice_get (things_of chart keys facts) j ≡ Some (TheSite k)
  site_place i j k e h =
      get_behind (map TheEdge chart.edges) behind_edges (length (points_of chart.forks) + i) j (TheSite k) (let l = length_map TheEdge chart.edges in omega (arith, e, l))
      (get_behind (map ThePoint (points_of chart.forks)) behind_points i (length (points_of chart.forks) + i) (TheSite k) (let l = length_map ThePoint (points_of chart.forks) in omega (arith, l))
      (get_front (map TheSite keys) behind_sites i (TheSite k) (get_map TheSite keys i k h)))

  pub fact_place : (i j : ℕ) (f : Fact) → j ≡ length chart.edges + length (points_of chart.forks) + length keys + i → slice_get facts i ≡ Some f → slice_get (things_of chart keys facts) j ≡ Some (TheFact f)
  fact_place i j f e h =
      get_behind (map TheEdge chart.edges) behind_edges (length (points_of chart.forks) + (length keys + i)) j (TheFact f) (let l = length_map TheEdge chart.edges in omega (arith, e, l))
      (get_behind (map ThePoint (points_of chart.forks)) behind_points (length keys + i) (length (points_of chart.forks) + (length keys + i)) (TheFact f) (let l = length_map ThePoint (points_of chart.forks) in omega (arith, l))
      (get_behind (map TheSite keys) behind_sites i (length keys + i) (TheFact f) (let l = length_map TheSite keys in omega (arith, l))
      (get_map TheFact facts i f h)))

  -- what it is for a thing to be one of the sentence
  abbrev pub IsThere : Thing → Type 0
  IsThere (TheEdge e) = In e chart.edges
  IsThere (ThePoint p) = In p (points_of chart.forks)
  IsThere (TheSite k) = In k keys
  IsThere (TheFact f) = In f facts

  pub is_there : (t : Thing) → In t (things_of chart keys facts) → IsThere t
  is_there t i = elim (In-append_cases (map TheEdge chart.edges) behind_edges i) [
    | inl a ↦ (let r = In_from_map TheEdge chart.edges a in subst IsThere r.2 r.1)
    | inr b ↦ elim (In-append_cases (map ThePoint (points_of chart.forks)) behind_points b) [
      | inl a ↦ (let r = In_from_map ThePoint (points_of chart.forks) a in subst IsThere r.2 r.1)
      | inr c ↦ elim (In-append_cases (map TheSite keys) behind_sites c) [
        | inl a ↦ (let r = In_from_map TheSite keys a in subst IsThere r.2 r.1)
        | inr d ↦ (let r = In_from_map TheFact facts d in subst IsThere r.2 r.1)
      ]
    ]
  ]

  pub thing_at : (t : Thing) (i : ℕ) → slice_get (things_of chart keys facts) i ≡ Some t → IsThere t
  thing_at t i e = is_there t (get_In (things_of chart keys facts) i t e)

-- the things of a sentence stand each once
pub once_outline : (g : Grammar) (s : List TokenForms) (chart : ChartForm) (keys : List ChoiceKey) (facts : List Fact)
    → IsStrictlySortedBy edge_cmp chart.edges → IsStrictlySortedBy point_cmp (points_of chart.forks) → IsStrictlySortedBy key_cmp keys → IsStrictlySortedBy fact_cmp facts
    → Once (things_of chart keys facts)
once_outline g s chart keys facts a b c d =
    once_things chart keys facts (once_sorted edge_cmp edge_cmp_total chart.edges a) (once_sorted point_cmp point_cmp_total (points_of chart.forks) b)
    (once_sorted key_cmp key_cmp_total keys c) (once_sorted fact_cmp fact_cmp_total facts d)
