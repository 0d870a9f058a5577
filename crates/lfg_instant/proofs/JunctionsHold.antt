-- The junctions that are listed are the choices of the sentence.
use Rattle.std.proofs.Common.{◌≡◌, ◌⊎◌, inl, inr, ℕ, ◌<◌, ◌≤◌, Some, List, [], ◌∷◌, map, length, slice_get, refl, ap, sym, subst, ◌∙◌, arith}
use Rattle.std.specs.declared.cmp.Ordering.{Ordering}
use Rattle.std.specs.declared.cmp.Ordering.TheVariants.{Less, Equal, Greater}
use Rattle.std.specs.Ordering.{nat_cmp, ordering_then, on}
use Rattle.std.specs.List.{AllByRecursion}
use Rattle.std.specs.List.Sorted.{IsStrictlySortedBy}
use Rattle.std.proofs.lemmas.Cmp.{nat_cmp_total}
use Rattle.std.proofs.lemmas.Option.{slice_get_within}
use Rattle.lfg_terms.specs.declared.node.Edge.{Edge}
use Rattle.lfg_terms.specs.declared.literal.Site.{Site}
use Rattle.lfg_terms.specs.declared.literal.Site.TheVariants as site
use Rattle.lfg_terms.specs.declared.grammar.Grammar.{Grammar}
use Rattle.lfg_terms.specs.declared.tree.TokenForms.{TokenForms}
use Rattle.lfg_model.specs.declared.point.Point.{Point}
use Rattle.lfg_model.specs.declared.point.Next.{Next}
use Rattle.lfg_model.specs.Charts.{Fork, IsChart}
use Rattle.lfg_model.specs.Lists.{In, here, later, Lists}
use Rattle.lfg_model.specs.Loaded.{Loaded}
use Rattle.lfg_model.specs.Places.{places}
use Rattle.lfg_model.proofs.Ascending.{once_from_total}
use Rattle.lfg_model.proofs.ListLaws.{In-nil, In-map, In_from_map}
use Rattle.lfg_packed.specs.declared.key.ChoiceKey.{ChoiceKey}
use Rattle.lfg_packed.specs.ChoicePoints.{ChoicePoint, NextAt, EntryAt, BranchAt, key_of, key_cmp, choice_cmp}
use Rattle.lfg_packed.specs.Choices.{annotation_at, AreNexts, HasAlternatives, PlacedChoice}
use Rattle.lfg_packed.proofs.KeyTies.{key_ties}
use Rattle.lfg_packed.proofs.Listing.{In_get, get_In, get_below}
use Rattle.lfg_packed.proofs.Selecting.{one_entries, one_nexts, one_number, word_edge}
use Rattle.lfg_instant.specs.declared.junctions.Junction.{Junction}
use Rattle.lfg_instant.specs.Collects.{Collects}
use Rattle.lfg_instant.specs.JunctionOrder.{junction_cmp}
use Rattle.lfg_instant.specs.Junctions.{IsJunction, next_key, at_place, IsNextJunction, IsEntryJunction, IsBranchJunction, place_of_key, placed, AreJunctions}
use Rattle.lfg_instant.specs.Sites.{AreEntryLists, site_key, site_of_key, AreSiteKeys}

module _ (g : Grammar) (s : List TokenForms) where
  -- a place and an item or entry are read back from their keys
  pub place_of : (x : ChoicePoint) → place_of_key (key_of g s x) ≡ x
  place_of (NextAt p) = refl
  place_of (EntryAt e) = refl
  place_of (BranchAt (site.Item e occ at to) place) = refl
  place_of (BranchAt (site.Entry e k) place) = refl

  pub site_of : (at : Site) → site_of_key (site_key g s at) ≡ at
  site_of (site.Item e occ at to) = refl
  site_of (site.Entry e k) = refl

  branch_key : (at : Site) (place : ℕ) → at_place (site_key g s at) place ≡ key_of g s (BranchAt at place)
  branch_key (site.Item e occ at to) place = refl
  branch_key (site.Entry e k) place = refl

  -- the junction is a choice of the sentence, with the key of its place
  pub record IsGood (j : Junction) : Type 0 where
    pub has : HasAlternatives g s (place_of_key j.key) j.alternatives
    pub two : 2 ≤ j.alternatives
    pub key : j.key ≡ key_of g s (place_of_key j.key)

  good_at : (x : ChoicePoint) (n : ℕ) (j : Junction) → HasAlternatives g s x n → IsJunction (key_of g s x) n j → IsGood j
  good_at x n j has is =
      let at : place_of_key j.key ≡ x = ap place_of_key is.key_is ∙ place_of x in
      let P : ChoicePoint → ℕ → Type 0 = λ y m. HasAlternatives g s y m in
      record {
        has = subst (λ (y : ChoicePoint). P y j.alternatives) (sym at) (subst (λ (m : ℕ). P x m) (sym is.many_is) has);
        two = (let Q : ℕ → Type 0 = λ m. 2 ≤ m in subst Q (sym is.many_is) is.two);
        key = is.key_is ∙ ap (key_of g s) (sym at);
      }

  -- the junction of a place
  abbrev at_point : ChoicePoint → ℕ → Junction
  at_point x n = record { key = key_of g s x; alternatives = n }

  module _ (loaded : Loaded g) (edges : List Edge) (forks : List Fork) (chart : IsChart g s edges forks) (lists : List (List ℕ)) (entries : AreEntryLists g s edges lists)
      (keys : List ChoiceKey) (sites : AreSiteKeys g s keys) where
    good_next : (j : Junction) → IsNextJunction forks j → IsGood j
    good_next j h =
        let fork : Fork = h.2.0 in
        good_at (NextAt fork.0) (length fork.1) j (fork.1, chart.all_nexts fork (get_In forks h.0 fork h.2.1), refl) h.2.2

    good_entry : (j : Junction) → IsEntryJunction edges lists j → IsGood j
    good_entry j h =
        let e : Edge = h.2.0 in
        let ks : List ℕ = h.2.1 in
        good_at (EntryAt e) (length ks) j (ks, entries.each h.0 e ks h.2.2 h.2.3, refl) h.2.4

    good_branch : (j : Junction) → IsBranchJunction g keys j → IsGood j
    good_branch j h =
        let k : ChoiceKey = h.2.0 in
        let st = (sites.exact k).0 (get_In keys h.0 k h.2.1) in
        let at : Site = st.0 in
        let e : k ≡ site_key g s at = st.2 in
        let m : ℕ = h.2.2.0 in
        let n : ℕ = h.2.2.2.0 in
        let same : site_of_key k ≡ at = ap site_of_key e ∙ site_of at in
        let P : Site → Type 0 = λ z. slice_get (places (annotation_at g z)) m ≡ Some n in
        let is : IsJunction (at_place k m) n j = h.2.2.2.2 in
        let key : at_place k m ≡ key_of g s (BranchAt at m) = ap (λ (z : ChoiceKey). at_place z m) e ∙ branch_key at m in
        good_at (BranchAt at m) n j (st.1, subst P same h.2.2.2.1) (record { two = is.two; key_is = is.key_is ∙ key; many_is = is.many_is })

    pub all_good : (j : Junction) → (IsNextJunction forks j ⊎ (IsEntryJunction edges lists j ⊎ IsBranchJunction g keys j)) → IsGood j
    all_good j (inl h) = good_next j h
    all_good j (inr (inl h)) = good_entry j h
    all_good j (inr (inr h)) = good_branch j h

    -- a list of two or more has an element
    first_of : {X : Type 0} (xs : List X) (n : ℕ) → n ≡ length xs → 2 ≤ n → (x : X) × In x xs
    first_of [] n e l = let no : ⊥ = omega arith in absurd no
    first_of (x ∷ xs) n e l = (x, here)

    pub each_there : (x : ChoicePoint) (n : ℕ) → HasAlternatives g s x n → 2 ≤ n
        → IsNextJunction forks (at_point x n) ⊎ (IsEntryJunction edges lists (at_point x n) ⊎ IsBranchJunction g keys (at_point x n))
    each_there (NextAt p) n has two =
        let f = first_of has.0 n has.2 two in
        let r = In_from_map (λ (z : Fork). z.0) forks ((chart.all_points.exact p).1 (f.0, (has.1.exact f.0).0 f.1)) in
        let fork : Fork = r.0 in
        let at = In_get r.1 in
        let P : Point → Type 0 = λ z. AreNexts g s z fork.1 in
        let same : has.0 ≡ fork.1 = one_nexts g s p has.0 fork.1 has.1 (subst P r.2 (chart.all_nexts fork r.1)) in
        inl (
          at.0,
          slice_get_within forks at.0 fork at.1,
          (
            fork,
            at.1,
            record {
              two = (let Q : ℕ → Type 0 = λ z. 2 ≤ z in subst Q (has.2 ∙ ap (λ (z : List Next). length z) same) two);
              key_is = ap next_key (sym r.2);
              many_is = has.2 ∙ ap (λ (z : List Next). length z) same;
            },
          ),
        )
    each_there (EntryAt e) n has two =
        let f = first_of has.0 n has.2 two in
        let at = In_get ((chart.all_edges.exact e).1 (word_edge g s loaded e f.0 ((has.1.exact f.0).0 f.1))) in
        let l : at.0 < length edges = slice_get_within edges at.0 e at.1 in
        let beside = get_below lists at.0 (let b = entries.beside in omega (arith, l, b)) in
        let ks : List ℕ = beside.0 in
        let same : has.0 ≡ ks = one_entries g s e has.0 ks has.1 (entries.each at.0 e ks at.1 beside.1) in
        inr (inl (
          at.0,
          l,
          (
            e,
            ks,
            at.1,
            beside.1,
            record {
              two = (let Q : ℕ → Type 0 = λ z. 2 ≤ z in subst Q (has.2 ∙ ap (λ (z : List ℕ). length z) same) two);
              key_is = refl;
              many_is = has.2 ∙ ap (λ (z : List ℕ). length z) same;
            },
          ),
        ))
    each_there (BranchAt at place) n has two =
        let k : ChoiceKey = site_key g s at in
        let m = In_get ((sites.exact k).1 (at, has.0, refl)) in
        let P : Site → Type 0 = λ z. slice_get (places (annotation_at g z)) place ≡ Some n in
        let there : slice_get (places (annotation_at g (site_of_key k))) place ≡ Some n = subst P (sym (site_of at)) has.1 in
        inr (inr (
          m.0,
          slice_get_within keys m.0 k m.1,
          (
            k,
            m.1,
            (
              place,
              slice_get_within (places (annotation_at g (site_of_key k))) place n there,
              (
                n,
                there,
                record {
                  two = two;
                  key_is = sym (branch_key at place);
                  many_is = refl;
                },
              ),
            ),
          ),
        ))

  -- two junctions that ascend have keys that ascend
  by_keys : (o p : Ordering) → ordering_then o p ≡ Less → (o ≡ Less) ⊎ ((o ≡ Equal) × (p ≡ Less))
  by_keys Less p h = inl refl
  by_keys Equal p h = inr (refl, h)
  by_keys Greater p h = cc

  less_keys : (j k : Junction) → IsGood j → IsGood k → junction_cmp j k ≡ Less → key_cmp j.key k.key ≡ Less
  less_keys j k a b h = elim (by_keys (key_cmp j.key k.key) (nat_cmp j.alternatives k.alternatives) h) [
    | inl l ↦ l
    | inr t ↦
        (let keys : j.key ≡ k.key = key_ties j.key k.key t.0 in
        let P : ChoiceKey → Type 0 = λ z. HasAlternatives g s (place_of_key z) k.alternatives in
        let same : j.alternatives ≡ k.alternatives = one_number g s (place_of_key j.key) j.alternatives k.alternatives a.has (subst P (sym keys) b.has) in
        let Q : ℕ → Type 0 = λ z. nat_cmp z k.alternatives ≡ Less in
        let less : nat_cmp k.alternatives k.alternatives ≡ Less = subst Q same t.1 in
        absurd (once_from_total nat_cmp_total k.alternatives k.alternatives less less))
  ]

  pub less_places : (j k : Junction) → IsGood j → IsGood k → junction_cmp j k ≡ Less → choice_cmp g s (place_of_key j.key) (place_of_key k.key) ≡ Less
  less_places j k a b h =
      ap (λ (z : ChoiceKey). key_cmp z (key_of g s (place_of_key k.key))) (sym a.key) ∙ ap (λ (z : ChoiceKey). key_cmp j.key z) (sym b.key) ∙ less_keys j k a b h

  abbrev placed_cmp : PlacedChoice → PlacedChoice → Ordering
  placed_cmp = on (λ c. c.at) (choice_cmp g s)

  all_less : (j : Junction) (js : List Junction) → IsGood j → ((k : Junction) → In k js → IsGood k) → AllByRecursion (λ k. junction_cmp j k ≡ Less) js
      → AllByRecursion (λ c. placed_cmp (placed j) c ≡ Less) (map placed js)
  all_less j [] a b h = tt
  all_less j (k ∷ js) a b h = (less_places j k a (b k here) h.0, all_less j js a (λ z i. b z (later i)) h.1)

  ascending : (js : List Junction) → ((k : Junction) → In k js → IsGood k) → IsStrictlySortedBy junction_cmp js → IsStrictlySortedBy placed_cmp (map placed js)
  unfolding IsStrictlySortedBy
  ascending [] good h = tt
  ascending (j ∷ js) good h = (all_less j js (good j here) (λ k i. good k (later i)) h.0, ascending js (λ k i. good k (later i)) h.1)

  -- where all junctions are good, and each choice has one, they are the choices
  pub are_junctions : (js : List Junction) → ((j : Junction) → In j js → IsGood j) → ((x : ChoicePoint) (n : ℕ) → HasAlternatives g s x n → 2 ≤ n → In (at_point x n) js)
      → IsStrictlySortedBy junction_cmp js → AreJunctions g s js
  are_junctions js good each ascends = record {
    choices = record {
      ascends = ascending js good ascends;
      exact = λ c. (
        (λ h. (let r = In_from_map placed js h in
            let P : PlacedChoice → Type 0 = λ z. HasAlternatives g s z.at z.alternatives × (2 ≤ z.alternatives) in
            let b = good r.0 r.1 in
            subst P r.2 (b.has, b.two))),
        (λ h. (let i : In (placed (at_point c.at c.alternatives)) (map placed js) = In-map placed (each c.at c.alternatives h.0 h.1) in
            let at : place_of_key (key_of g s c.at) ≡ c.at = place_of c.at in
            let P : ChoicePoint → Type 0 = λ z. In {X = PlacedChoice} (record { at = z; alternatives = c.alternatives }) (map placed js) in
            subst P at i)),
      );
    };
    keys = λ j h. (good j h).key;
  }

-- what is collected, in order and each once, is the choices of the sentence
pub listed_are : (g : Grammar) (s : List TokenForms) (loaded : Loaded g) (edges : List Edge) (forks : List Fork) (chart : IsChart g s edges forks)
    → (lists : List (List ℕ)) (entries : AreEntryLists g s edges lists) (keys : List ChoiceKey) (sites : AreSiteKeys g s keys)
    → (old one two three js : List Junction) → old ≡ [] → Collects old one (IsNextJunction forks) → Collects one two (IsEntryJunction edges lists) → Collects two three (IsBranchJunction g keys)
    → Lists junction_cmp (λ j. In j three) js → AreJunctions g s js
listed_are g s loaded edges forks chart lists entries keys sites old one two three js empty f h k l =
    are_junctions g s js
    (λ j i. all_good g s loaded edges forks chart lists entries keys sites j (kinds j ((l.exact j).0 i)))
    (λ x n has two. (l.exact (record { key = key_of g s x; alternatives = n })).1 (there (record { key = key_of g s x; alternatives = n }) (each_there g s loaded edges forks chart lists entries keys sites x n has two)))
    l.ascends
  where
    kinds : (j : Junction) → In j three → IsNextJunction forks j ⊎ (IsEntryJunction edges lists j ⊎ IsBranchJunction g keys j)
    kinds j i = elim ((k.exact j).0 i) [
      | inr b ↦ inr (inr b)
      | inl a ↦ elim ((h.exact j).0 a) [
        | inr b ↦ inr (inl b)
        | inl c ↦ elim ((f.exact j).0 c) [ inl d ↦ (let P : List Junction → Type 0 = λ z. In j z in In-nil (subst P empty d)) | inr b ↦ inl b ]
      ]
    ]

    there : (j : Junction) → IsNextJunction forks j ⊎ (IsEntryJunction edges lists j ⊎ IsBranchJunction g keys j) → In j three
    there j (inl a) = (k.exact j).1 (inl ((h.exact j).1 (inl ((f.exact j).1 (inr a)))))
    there j (inr (inl b)) = (k.exact j).1 (inl ((h.exact j).1 (inr b)))
    there j (inr (inr b)) = (k.exact j).1 (inr b)
