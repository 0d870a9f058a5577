-- The literals and tree facts that hold at an assignment are those of the derivation that it picks.
use Rattle.std.proofs.Common.{◌≡◌, ◌↔◌, ◌⊎◌, inl, inr, ℕ, zero, suc, ◌<◌, Bool, true, false, Some, List, [], ◌∷◌, ◌++◌, map, length, slice_get, if◌then◌else◌, sym, subst, ap, ◌∙◌, refl, arith}
use Rattle.std.specs.List.{flat_map}
use Rattle.std.specs.List.Sorted.{IsPermutation}
use Rattle.std.proofs.lemmas.Option.{same_Some, slice_get_within}
use Rattle.lfg_terms.specs.Order.{fact_cmp}
use Rattle.lfg_terms.specs.declared.node.Edge.{Edge}
use Rattle.lfg_terms.specs.declared.node.Fact.{Fact}
use Rattle.lfg_terms.specs.declared.literal.Site.{Site}
use Rattle.lfg_terms.specs.declared.literal.Literal.{Literal}
use Rattle.lfg_terms.specs.declared.grammar.Grammar.{Grammar}
use Rattle.lfg_terms.specs.declared.tree.TokenForms.{TokenForms}
use Rattle.lfg_chart.specs.Chart.{ChartForm}
use Rattle.lfg_context.specs.Seen.{Set}
use Rattle.lfg_context.specs.Sets.{Assignment, member}
use Rattle.lfg_model.specs.Charts.{IsChart}
use Rattle.lfg_model.specs.Lists.{In, here, later, Once, none, more, Lists}
use Rattle.lfg_model.specs.Loaded.{Loaded}
use Rattle.lfg_model.specs.Picked.{Selection, IsReached, SiteReached, IsPicked}
use Rattle.lfg_model.specs.Spots.{Spot, AnEdge, AStep, AWord, APick, spots_of, Stands}
use Rattle.lfg_model.specs.Terms.{Tree}
use Rattle.lfg_model.specs.Trees.{literals, tree_facts}
use Rattle.lfg_model.proofs.ListLaws.{In-nil, In-one, In-cons_cases, In-flat_map, In_from_flat_map}
use Rattle.lfg_model.proofs.ReachedLaws.{picked_is_reached}
use Rattle.lfg_packed.specs.declared.key.ChoiceKey.{ChoiceKey}
use Rattle.lfg_packed.specs.Choices.{IsSite, PlacedChoice, AreChoices}
use Rattle.lfg_packed.specs.Assignments.{picks_at, IsPickedBy}
use Rattle.lfg_packed.specs.Counts.{IsTreeFact}
use Rattle.lfg_packed.specs.Layouts.{AreWords}
use Rattle.lfg_packed.specs.Picks.{spot_sites, sites_in}
use Rattle.lfg_packed.specs.SpotFacts.{site_literals, spot_facts}
use Rattle.lfg_packed.proofs.Listing.{In_get, get_In}
use Rattle.lfg_packed.proofs.LoadedGives.{apart}
use Rattle.lfg_packed.proofs.Selecting.{picked_selected}
use Rattle.lfg_packed.proofs.SiteLaws.{literals_by_picks}
use Rattle.lfg_packed.proofs.SpotLaws.{tree_facts_are_of_spots}
use Rattle.lfg_instant.specs.Holding.{holding, beside}
use Rattle.lfg_instant.specs.Literals.{listed_of}
use Rattle.lfg_instant.specs.Outlines.{words_beside, selected, FactReached}
use Rattle.lfg_instant.specs.Sites.{AreEntryLists, site_of_key}

-- ---- edges with their entries

beside_edges : (edges : List Edge) (lists : List (List ℕ)) → length lists ≡ length edges → map (λ w. w.0) (words_beside edges lists) ≡ edges
beside_edges [] lists l = refl
beside_edges (e ∷ edges) [] l = absurd (let no : 0 ≡ suc (length edges) = l in omega arith)
beside_edges (e ∷ edges) (ks ∷ lists) l = ap (λ es. e ∷ es) (beside_edges edges lists (omega arith))

In_beside : (edges : List Edge) (lists : List (List ℕ)) (w : Edge × List ℕ) → In w (words_beside edges lists) → (i : ℕ) × (slice_get edges i ≡ Some w.0) × (slice_get lists i ≡ Some w.1)
In_beside [] lists w h = In-nil h
In_beside (e ∷ edges) [] w h = In-nil h
In_beside (e ∷ edges) (ks ∷ lists) w h = elim (In-cons_cases h) [
  | inl same ↦ (0, ap (λ z. Some (z.0)) (sym same), ap (λ z. Some (z.1)) (sym same))
  | inr rest ↦ (let r = In_beside edges lists w rest in (suc r.0, r.1, r.2))
]

pub are_words : (g : Grammar) (s : List TokenForms) (edges : List Edge) (lists : List (List ℕ)) → AreEntryLists g s edges lists → AreWords g s edges (words_beside edges lists)
are_words g s edges lists h = record {
  beside = beside_edges edges lists h.beside;
  each = λ w i. (let r = In_beside edges lists w i in h.each r.0 w.0 w.1 r.1 r.2);
}

-- ---- what holds of a list of things with their sets

-- the things of a list whose sets, from a place of the table on, have the assignment
abbrev pub reached_of : {X : Type 0} → List X → List Set → Assignment → List X
reached_of xs sets a = holding (beside xs sets) a

holds_cases : {X : Type 0} (x : X × Set) (xs : List (X × Set)) (a : Assignment) (y : X) (b : Bool) → member x.1 a ≡ b → In y (holding (x ∷ xs) a) → ((y ≡ x.0) × (b ≡ true)) ⊎ In y (holding xs a)
holds_cases {X} x xs a y true e h = let P : Bool → Type 0 = λ c. In y (if c then x.0 ∷ holding xs a else holding xs a) in elim (In-cons_cases (subst P e h)) [ inl same ↦ inl (same, refl) | inr rest ↦ inr rest ]
holds_cases {X} x xs a y false e h = let P : Bool → Type 0 = λ c. In y (if c then x.0 ∷ holding xs a else holding xs a) in inr (subst P e h)

holds_here : {X : Type 0} (x : X × Set) (xs : List (X × Set)) (a : Assignment) → member x.1 a ≡ true → In x.0 (holding (x ∷ xs) a)
holds_here {X} x xs a e = let P : Bool → Type 0 = λ c. In x.0 (if c then x.0 ∷ holding xs a else holding xs a) in subst P (sym e) here

holds_later : {X : Type 0} (x : X × Set) (xs : List (X × Set)) (a : Assignment) (y : X) (b : Bool) → member x.1 a ≡ b → In y (holding xs a) → In y (holding (x ∷ xs) a)
holds_later {X} x xs a y true e h = let P : Bool → Type 0 = λ c. In y (if c then x.0 ∷ holding xs a else holding xs a) in subst P (sym e) (later h)
holds_later {X} x xs a y false e h = let P : Bool → Type 0 = λ c. In y (if c then x.0 ∷ holding xs a else holding xs a) in subst P (sym e) h

-- what holds stands in the list with a set that has the assignment
pub holding_has : {X : Type 0} (xs : List X) (sets : List Set) (a : Assignment) (y : X) → In y (reached_of xs sets a) → (i : ℕ) × (set : Set) × (slice_get xs i ≡ Some y) × (slice_get sets i ≡ Some set) × (member set a ≡ true)
holding_has [] sets a y h = In-nil h
holding_has (x ∷ xs) [] a y h = In-nil h
holding_has (x ∷ xs) (set ∷ sets) a y h = elim (holds_cases (x, set) (beside xs sets) a y (member set a) refl h) [
  | inl same ↦ (0, set, ap Some (sym same.0), refl, same.1)
  | inr rest ↦ (let r = holding_has xs sets a y rest in (suc r.0, r.1, r.2, r.3, r.4))
]

pub has_holding : {X : Type 0} (xs : List X) (sets : List Set) (a : Assignment) (i : ℕ) (y : X) (set : Set) → slice_get xs i ≡ Some y → slice_get sets i ≡ Some set → member set a ≡ true → In y (reached_of xs sets a)
has_holding [] sets a i y set h k m = cc
has_holding (x ∷ xs) [] a i y set h k m = cc
has_holding {X} (x ∷ xs) (z ∷ sets) a zero y set h k m =
    let same : z ≡ set = same_Some z set k in
    let is : x ≡ y = same_Some x y h in
    let P : X → Type 0 = λ w. In w (holding ((x, z) ∷ beside xs sets) a) in
    subst P is (holds_here (x, z) (beside xs sets) a (ap (λ w. member w a) same ∙ m))
has_holding (x ∷ xs) (z ∷ sets) a (suc i) y set h k m = holds_later (x, z) (beside xs sets) a y (member z a) refl (has_holding xs sets a i y set h k m)

-- it stands once where the list does
pub holding_once : {X : Type 0} (xs : List X) (sets : List Set) (a : Assignment) → Once xs → Once (reached_of xs sets a)
holding_once [] sets a o = none
holding_once (x ∷ xs) [] a o = none
holding_once {X} (x ∷ xs) (set ∷ sets) a (more n o) = go (member set a) refl (holding_once xs sets a o)
  where
    go : (b : Bool) → member set a ≡ b → Once (reached_of xs sets a) → Once (holding ((x, set) ∷ beside xs sets) a)
    go true e rest =
        let P : Bool → Type 0 = λ c. Once (if c then x ∷ holding (beside xs sets) a else holding (beside xs sets) a) in
        subst P (sym e) (more (λ i. let r = holding_has xs sets a x i in n (get_In xs r.0 x r.2)) rest)
    go false e rest = let P : Bool → Type 0 = λ c. Once (if c then x ∷ holding (beside xs sets) a else holding (beside xs sets) a) in subst P (sym e) rest

pub listed_holding : {X Y : Type 0} (f : X → List Y) (xs : List X) (sets : List Set) (a : Assignment) → listed_of f xs sets a ≡ flat_map f (reached_of xs sets a)
listed_holding f [] sets a = refl
listed_holding f (x ∷ xs) [] a = refl
listed_holding {X} {Y} f (x ∷ xs) (set ∷ sets) a = go (member set a) refl (listed_holding f xs sets a)
  where
    go : (b : Bool) → member set a ≡ b → listed_of f xs sets a ≡ flat_map f (reached_of xs sets a) → (if member set a then f x else []) ++ listed_of f xs sets a ≡ flat_map f (holding ((x, set) ∷ beside xs sets) a)
    go true e rest =
        let P : Bool → Type 0 = λ c. (if c then f x else []) ++ listed_of f xs sets a ≡ flat_map f (if c then x ∷ holding (beside xs sets) a else holding (beside xs sets) a) in
        subst P (sym e) (ap (λ ys. f x ++ ys) rest)
    go false e rest =
        let P : Bool → Type 0 = λ c. (if c then f x else []) ++ listed_of f xs sets a ≡ flat_map f (if c then x ∷ holding (beside xs sets) a else holding (beside xs sets) a) in
        subst P (sym e) rest

-- ---- the items and entries that hold are those of the picked derivation

module _ (g : Grammar) (s : List TokenForms) (loaded : Loaded g) (cs : List PlacedChoice) (choices : AreChoices g s cs) (chart : ChartForm) (is_chart : IsChart g s chart.edges chart.forks)
    (lists : List (List ℕ)) (entries : AreEntryLists g s chart.edges lists) (a : Assignment) (d : Tree) (picked : IsPickedBy g s cs a d) where
  abbrev pub chosen : Selection
  chosen = selected g s cs chart lists a

  is_picked : IsPicked g s chosen d
  is_picked = picked_selected g s loaded cs a choices chart.edges chart.forks is_chart (words_beside chart.edges lists) (are_words g s chart.edges lists entries) d picked

  reached : (x : Spot) → In x (spots_of d 0) ↔ IsReached g s chosen x
  reached x = picked_is_reached g s chosen d (apart g loaded) is_picked x

  -- an item or entry of the derivation is one that is reached
  site_in : (xs : List Spot) (at : Site) → In at (sites_in xs) → (picks : List ℕ) × In (APick at picks) xs
  site_in xs at h = let r = In_from_flat_map spot_sites xs h in go r.0 r.1 r.2
    where
      go : (x : Spot) → In x xs → In at (spot_sites x) → (picks : List ℕ) × In (APick at picks) xs
      go (AnEdge e) i j = In-nil j
      go (AStep p n) i j = In-nil j
      go (AWord e k) i j = In-nil j
      go (APick other picks) i j = let P : Site → Type 0 = λ z. In (APick z picks) xs in (picks, subst P (sym (In-one j)) i)

  pub site_is_reached : (at : Site) → In at (sites_in (spots_of d 0)) ↔ SiteReached g s chosen at
  site_is_reached at = (
    (λ h. let r = site_in (spots_of d 0) at h in ((reached (APick at r.0)).0 r.1).0),
    (λ h. In-flat_map spot_sites ((reached (APick at (chosen.picks_of at))).1 (h, refl)) here),
  )

  pub site_stands : (at : Site) → In at (sites_in (spots_of d 0)) → IsSite g s at
  site_stands at h = let r = site_in (spots_of d 0) at h in (r.0, record { derivation = d; whole = picked.whole; has = r.1 })

  -- the keys whose sets have the assignment are those of its items and entries
  pub literals_hold : (keys : List ChoiceKey) (sets : List Set) → length sets ≡ length keys → Once (map site_of_key keys) → ((at : Site) → In at (map site_of_key keys) ↔ IsSite g s at)
      → ((i : ℕ) (k : ChoiceKey) (set : Set) → slice_get keys i ≡ Some k → slice_get sets i ≡ Some set → (member set a ≡ true) ↔ SiteReached g s chosen (site_of_key k))
      → IsPermutation (listed_of (λ k. site_literals g (site_of_key k) (picks_at g s cs a (site_of_key k))) keys sets a) (literals g d 0)
  literals_hold keys sets len once exact means =
      let f : Site → List Literal = λ at. site_literals g at (picks_at g s cs a at) in
      let h : ChoiceKey → List Literal = λ k. f (site_of_key k) in
      let sites = reached_of (map site_of_key keys) sets a in
      let is : listed_of h keys sets a ≡ flat_map f sites = moved f keys sets ∙ listed_holding f (map site_of_key keys) sets a in
      let P : List Literal → Type 0 = λ ls. IsPermutation ls (literals g d 0) in
      subst P (sym is) (literals_by_picks g s cs a d loaded picked sites (holding_once (map site_of_key keys) sets a once) (λ at. (forth at, back at)))
    where
      moved : (f : Site → List Literal) (ks : List ChoiceKey) (zs : List Set) → listed_of (λ k. f (site_of_key k)) ks zs a ≡ listed_of f (map site_of_key ks) zs a
      moved f [] zs = refl
      moved f (k ∷ ks) [] = refl
      moved f (k ∷ ks) (z ∷ zs) = ap (λ ls. (if member z a then f (site_of_key k) else []) ++ ls) (moved f ks zs)

      key_at : (i : ℕ) (at : Site) (ks : List ChoiceKey) → slice_get (map site_of_key ks) i ≡ Some at → (k : ChoiceKey) × (slice_get ks i ≡ Some k) × (site_of_key k ≡ at)
      key_at i at [] e = cc
      key_at zero at (k ∷ ks) e = (k, refl, same_Some (site_of_key k) at e)
      key_at (suc i) at (k ∷ ks) e = key_at i at ks e

      at_key : (i : ℕ) (k : ChoiceKey) (ks : List ChoiceKey) → slice_get ks i ≡ Some k → slice_get (map site_of_key ks) i ≡ Some (site_of_key k)
      at_key i k [] e = cc
      at_key zero k (j ∷ ks) e = ap (λ z. Some (site_of_key z)) (same_Some j k e)
      at_key (suc i) k (j ∷ ks) e = at_key i k ks e

      some_set : (i : ℕ) (zs : List Set) → i < length zs → (z : Set) × (slice_get zs i ≡ Some z)
      some_set i [] l = absurd (let no : ⊥ = omega arith in no)
      some_set zero (z ∷ zs) l = (z, refl)
      some_set (suc i) (z ∷ zs) l = some_set i zs (omega arith)

      forth : (at : Site) → In at (reached_of (map site_of_key keys) sets a) → In at (sites_in (spots_of d 0))
      forth at i =
          let r = holding_has (map site_of_key keys) sets a at i in
          let k = key_at r.0 at keys r.2 in
          let P : Site → Type 0 = λ z. SiteReached g s chosen z in
          (site_is_reached at).1 (subst P k.2 ((means r.0 k.0 r.1 k.1 r.3).0 r.4))

      back : (at : Site) → In at (sites_in (spots_of d 0)) → In at (reached_of (map site_of_key keys) sets a)
      back at i =
          let place = In_get ((exact at).1 (site_stands at i)) in
          let k = key_at place.0 at keys place.1 in
          let z = some_set place.0 sets (let l = slice_get_within keys place.0 k.0 k.1 in omega (arith, l, len)) in
          let P : Site → Type 0 = λ w. SiteReached g s chosen w in
          has_holding (map site_of_key keys) sets a place.0 at z.0 place.1 z.1 ((means place.0 k.0 z.0 k.1 z.1).1 (subst P (sym k.2) ((site_is_reached at).0 i)))

  -- and so are the facts of its tree
  pub facts_hold : (facts : List Fact) (sets : List Set) → length sets ≡ length facts → Lists fact_cmp (IsTreeFact g s) facts
      → ((i : ℕ) (f : Fact) (set : Set) → slice_get facts i ≡ Some f → slice_get sets i ≡ Some set → (member set a ≡ true) ↔ FactReached g s chosen f)
      → (f : Fact) → In f (reached_of facts sets a) ↔ In f (tree_facts s d 0)
  facts_hold facts sets len all means f =
      let is : tree_facts s d 0 ≡ flat_map (spot_facts g s) (spots_of d 0) = tree_facts_are_of_spots g s d _ picked.whole.derives in
      let P : List Fact → Type 0 = λ fs. In f fs in (
        (λ i. (
            let r = holding_has facts sets a f i in
            let t = (means r.0 f r.1 r.2 r.3).0 r.4 in
            subst P (sym is) (In-flat_map (spot_facts g s) ((reached t.0).1 t.1) t.2)
            )),
        (λ i. (
            let t = In_from_flat_map (spot_facts g s) (spots_of d 0) (subst P is i) in
            let st : Stands g s t.0 = record { derivation = d; whole = picked.whole; has = t.1 } in
            let place = In_get ((all.exact f).1 (t.0, st, t.2)) in
            let z = set_at place.0 sets (let l = slice_get_within facts place.0 f place.1 in omega (arith, l, len)) in
            has_holding facts sets a place.0 f z.0 place.1 z.1 ((means place.0 f z.0 place.1 z.1).1 (t.0, (reached t.0).0 t.1, t.2))
            )),
      )
    where
      set_at : (i : ℕ) (zs : List Set) → i < length zs → (z : Set) × (slice_get zs i ≡ Some z)
      set_at i [] l = absurd (let no : ⊥ = omega arith in no)
      set_at zero (z ∷ zs) l = (z, refl)
      set_at (suc i) (z ∷ zs) l = set_at i zs (omega arith)
