-- Passages that are collected.
use Rattle.std.proofs.Common.{◌≡◌, ◌↔◌, ℕ, ◌+◌, ◌<◌, ◌≤◌, ◌⊎◌, inl, inr, Option, Some, List, [], ◌∷◌, ◌++◌, length, map, slice_get, sym, ap, subst, ◌∙◌, arith}
use Rattle.std.proofs.lemmas.Option.{same_Some, slice_get_within}
use Rattle.lfg_terms.specs.declared.node.Edge.{Edge}
use Rattle.lfg_terms.specs.declared.node.Fact.{Fact}
use Rattle.lfg_terms.specs.declared.grammar.Grammar.{Grammar}
use Rattle.lfg_terms.specs.declared.tree.TokenForms.{TokenForms}
use Rattle.lfg_chart.specs.Chart.{ChartForm}
use Rattle.lfg_context.specs.Seen.{Set}
use Rattle.lfg_model.specs.Charts.{points_of}
use Rattle.lfg_model.specs.Lists.{In, here, Once}
use Rattle.lfg_packed.specs.declared.key.ChoiceKey.{ChoiceKey}
use Rattle.lfg_instant.specs.declared.steps.Step.{Step}
use Rattle.lfg_instant.specs.declared.steps.Word.{Word}
use Rattle.lfg_instant.specs.Flow.{IsWithin, AreWithin}
use Rattle.lfg_model.proofs.ListLaws.{In-nil, In-one, Contains_from_In, In_from_Contains}
use Rattle.std.specs.List.Sorted.{IsPermutation}
use Rattle.std.proofs.lemmas.List.Sorted.{Contains-permutation, IsPermutation-sym}
use Rattle.lfg_instant.specs.declared.flow.Passage.{Passage}
use Rattle.lfg_instant.specs.Collects.{Collects}
use Rattle.lfg_instant.specs.Ways.{Thing, TheEdge, ThePoint, TheSite, TheFact, things_of, IsPlaceOf, ArePlacesOf, Joins, JoinsOneOf, ArePassages, ArePicks}
use Rattle.lfg_instant.proofs.CollectLaws.{counted_more, collects_along}
use Rattle.lfg_instant.proofs.PlaceLaws.{place_found}
use Rattle.lfg_instant.proofs.WayLaws.{length_map}

-- the same elements in another order
pub from_permuted : {X : Type 0} (xs ys : List X) (x : X) → IsPermutation xs ys → In x ys → In x xs
from_permuted xs ys x p i = In_from_Contains xs x (Contains-permutation ys xs x (IsPermutation-sym xs ys p) (Contains_from_In i))

-- what each element of a list gives by its number
module _ {X Y : Type 0} (us : List Y) (Q : ℕ → Y → X → Type 0) where
  abbrev pub GivenAt : ℕ → X → Type 0
  GivenAt n x = (y : Y) × (slice_get us n ≡ Some y) × Q n y x

  pub given_more : (xs ys zs : List X) (n : ℕ) (d : Y) → slice_get us n ≡ Some d → Collects xs ys (λ x. (m : ℕ) × (m < n) × GivenAt m x) → Collects ys zs (Q n d)
      → Collects xs zs (λ x. (m : ℕ) × (m < n + 1) × GivenAt m x)
  given_more xs ys zs n d there f g = counted_more xs ys zs GivenAt (Q n d) n f g (λ x. (
    (λ h. (let P : Y → Type 0 = λ y. Q n y x in subst P (same_Some h.0 d (sym h.1 ∙ there)) h.2)),
    (λ q. (d, there, q)),
  ))

  -- and what all of them give
  abbrev pub Given : X → Type 0
  Given x = (m : ℕ) × (y : Y) × (slice_get us m ≡ Some y) × Q m y x

  pub given_all : (xs ys : List X) (n : ℕ) → length us ≤ n → Collects xs ys (λ x. (m : ℕ) × (m < n) × GivenAt m x) → Collects xs ys Given
  given_all xs ys n l f = collects_along xs ys (λ x. (m : ℕ) × (m < n) × GivenAt m x) Given (λ x. (
    (λ h. (h.0, h.2.0, h.2.1, h.2.2)),
    (λ h. (h.0, (let w = slice_get_within us h.0 h.1 h.2 in omega (arith, w, l)), (h.1, h.2, h.3))),
  )) f

-- a passage from a place to one of some places
abbrev pub Leads : Option ℕ → ℕ → List ℕ → Passage → Type 0
Leads from pick places p = (from ≡ Some p.from) × (p.pick ≡ pick) × In p.to places

-- passages from the place of a thing to those of others
pub leads_joins : (things : List Thing) (t : Thing) (us : List Thing) (from : Option ℕ) (pick : ℕ) (places : List ℕ) (old new : List Passage) → Once things → IsPlaceOf things t from
    → ArePlacesOf things us places → Collects old new (Leads from pick places) → Collects old new (JoinsOneOf things t us pick)
leads_joins things t us from pick places old new once at are f = collects_along old new (Leads from pick places) (JoinsOneOf things t us pick) (λ p. (
  (λ h. (let w = (are p.to).0 h.2 in let v = (place_found things t from once at p.from).0 h.0 in
      (w.0, w.1, record { start = v.2 ∙ ap Some (In-one v.1); by_pick = h.1; end = w.2 }))),
  (λ h. ((place_found things t from once at p.from).1 (t, here, h.2.start), h.2.by_pick, (are p.to).1 (h.0, h.1, h.2.end))),
)) f

pub joins_one : (things : List Thing) (t u : Thing) (pick : ℕ) (old new : List Passage) → Collects old new (JoinsOneOf things t (u ∷ []) pick) → Collects old new (Joins things t u pick)
joins_one things t u pick old new f = collects_along old new (JoinsOneOf things t (u ∷ []) pick) (Joins things t u pick) (λ p. (
  (λ h. (let P : Thing → Type 0 = λ v. Joins things t v pick p in subst P (In-one h.1) h.2)),
  (λ j. (u, here, j)),
)) f

-- passages to the places that are through
pub leads_some : (from pick : ℕ) (places : List ℕ) (old new : List Passage) → Collects old new (λ p. (i : ℕ) × In i places × (p ≡ record { from = from; pick = pick; to = i }))
    → Collects old new (λ p. (p.from ≡ from) × (p.pick ≡ pick) × In p.to places)
leads_some from pick places old new f =
    collects_along old new (λ p. (i : ℕ) × In i places × (p ≡ record { from = from; pick = pick; to = i })) (λ p. (p.from ≡ from) × (p.pick ≡ pick) × In p.to places) (λ p. (
      (λ h. (ap (λ (q : Passage). q.from) h.2, ap (λ (q : Passage). q.pick) h.2, (let P : ℕ → Type 0 = λ i. In i places in subst P (sym (ap (λ (q : Passage). q.to) h.2)) h.1))),
      (λ h. (p.to, h.2, (λ i. record { from = h.0 i; pick = h.1 i; to = p.to }))),
    )) f

pub along_places : (things us : List Thing) (places others : List ℕ) → others ≡ places → ArePlacesOf things us places → ArePlacesOf things us others
along_places things us places others e h = let P : List ℕ → Type 0 = λ xs. ArePlacesOf things us xs in subst P (sym e) h

-- all passages, as they were collected
pub collected_three : (P Q R : Passage → Type 0) (z a b d : List Passage) → z ≡ [] → Collects z a P → Collects a b Q → Collects b d R → (p : Passage) → In p d ↔ (P p ⊎ (Q p ⊎ R p))
collected_three P Q R z a b d none f g h p = (
  (λ i. elim ((h.exact p).0 i) [
    | inr r ↦ inr (inr r)
    | inl j ↦ elim ((g.exact p).0 j) [
      | inr q ↦ inr (inl q)
      | inl k ↦ elim ((f.exact p).0 k) [ inr x ↦ inl x | inl l ↦ In-nil (let S : List Passage → Type 0 = λ xs. In p xs in subst S none l) ]
    ]
  ]),
  (λ w. elim w [
    | inl x ↦ (h.exact p).1 (inl ((g.exact p).1 (inl ((f.exact p).1 (inr x)))))
    | inr y ↦ elim y [ inl q ↦ (h.exact p).1 (inl ((g.exact p).1 (inr q))) | inr r ↦ (h.exact p).1 (inr r) ]
  ]),
)

-- the passages of a sentence go between its places by picks that there are
length_both : {X : Type 0} (xs ys : List X) → length (xs ++ ys) ≡ length xs + length ys
length_both [] ys = omega arith
length_both (x ∷ xs) ys = let e = length_both xs ys in omega (arith, e)

pub length_things : (chart : ChartForm) (keys : List ChoiceKey) (facts : List Fact)
    → length (things_of chart keys facts) ≡ length chart.edges + length (points_of chart.forks) + length keys + length facts
length_things chart keys facts =
    let a = length_both (map TheEdge chart.edges) (map ThePoint (points_of chart.forks) ++ (map TheSite keys ++ map TheFact facts)) in
    let b = length_both (map ThePoint (points_of chart.forks)) (map TheSite keys ++ map TheFact facts) in
    let d = length_both (map TheSite keys) (map TheFact facts) in
    let e = length_map TheEdge chart.edges in
    let f = length_map ThePoint (points_of chart.forks) in
    let g = length_map TheSite keys in
    let h = length_map TheFact facts in
    omega (arith, a, b, d, e, f, g, h)

pub length_picks : (ss ws picks : List Set) → ArePicks ss ws picks → length picks ≡ 1 + length ss + length ws
length_picks ss ws picks p = let e = ap (λ (xs : List Set). length xs) p.are in let l = length_both ss ws in omega (arith, e, l)

module _ (g : Grammar) (s : List TokenForms) (things : List Thing) (edges : List Edge) (steps : List Step) (words : List Word) (passages : List Passage)
    (are : ArePassages g s things edges steps words passages) (places picks : ℕ) (len : length things ≡ places) (many : picks ≡ 1 + length steps + length words) where
  joined_within : (t u : Thing) (pick : ℕ) (p : Passage) → pick < picks → Joins things t u pick p → IsWithin places picks p
  joined_within t u pick p l j =
      let a = slice_get_within things p.from t j.start in
      let b = slice_get_within things p.to u j.end in
      let e = j.by_pick in
      (omega (arith, a, len), omega (arith, e, l), omega (arith, b, len))

  pub passages_within : AreWithin places picks passages
  passages_within = record {
    each = λ p i. elim ((are.exact p).0 i) [
      | inl (n, e, get, j) ↦ joined_within _ _ 0 p (omega (arith, many)) j
      | inr r ↦ elim r [
        | inl (n, st, get, (u, k, j)) ↦ joined_within _ u (1 + n) p (let l = slice_get_within steps n st get in omega (arith, l, many)) j
        | inr (n, w, get, (u, k, j)) ↦ joined_within _ u (1 + length steps + n) p (let l = slice_get_within words n w get in omega (arith, l, many)) j
      ]
    ];
  }
