-- What the call gives, from the table of the sets of all edges, points, items, entries and facts.
use Rattle.std.proofs.Common.{◌≡◌, inl, inr, ℕ, zero, suc, ◌+◌, ◌-◌, ◌^◌, ◌<◌, ◌≤◌, min, max, Some, List, [], ◌∷◌, ◌++◌, length, map, take, drop, get_or, slice_get, sym, subst, ap, ◌∙◌, refl, arith}
use Rattle.std.specs.List.{sum_by}
use Rattle.std.specs.List.Sorted.{IsPermutation}
use Rattle.lfg_terms.specs.Order.{fact_cmp}
use Rattle.lfg_terms.specs.declared.choice.Choice.{Choice}
use Rattle.lfg_terms.specs.declared.node.Edge.{Edge}
use Rattle.lfg_terms.specs.declared.node.Fact.{Fact}
use Rattle.lfg_terms.specs.declared.literal.Literal.{Literal}
use Rattle.lfg_terms.specs.declared.grammar.Grammar.{Grammar}
use Rattle.lfg_terms.specs.declared.tree.TokenForms.{TokenForms}
use Rattle.lfg_chart.specs.Chart.{ChartForm}
use Rattle.lfg_context.specs.Seen.{Set, Known}
use Rattle.lfg_context.specs.Sets.{Assignment, AreMade}
use Rattle.lfg_model.specs.Charts.{Fork, points_of, IsChart}
use Rattle.lfg_model.specs.Derive.{edge, Whole}
use Rattle.lfg_model.specs.Lists.{In, here, later, Lists}
use Rattle.lfg_model.specs.Spots.{AnEdge, Stands}
use Rattle.lfg_model.specs.Terms.{Tree}
use Rattle.lfg_model.proofs.Building.{has_edge}
use Rattle.lfg_model.specs.Trees.{literals}
use Rattle.lfg_model.proofs.ListLaws.{In-nil, In-cons_cases}
use Rattle.lfg_packed.specs.declared.key.ChoiceKey.{ChoiceKey}
use Rattle.lfg_packed.specs.Assignments.{IsPickedBy}
use Rattle.lfg_packed.specs.Choices.{PlacedChoice, choice_of}
use Rattle.lfg_packed.specs.Counts.{AreSites, IsTreeFact, IsLiteralCount}
use Rattle.lfg_instant.specs.declared.junctions.Junction.{Junction}
use Rattle.lfg_instant.specs.declared.steps.Step.{Step}
use Rattle.lfg_instant.specs.declared.steps.Word.{Word}
use Rattle.lfg_instant.specs.Holding.{holding, beside}
use Rattle.lfg_instant.specs.Instants.{HasNoDerivation, AreSpaceOf, AreLiteralsOf, AreFactsOf}
use Rattle.lfg_instant.specs.Junctions.{placed, AreJunctions}
use Rattle.lfg_instant.specs.Literals.{key_literals, key_size, IsSiteKey, listed_of}
use Rattle.lfg_instant.specs.Outlines.{IsOutline, IsReachedTable}
use Rattle.lfg_instant.specs.Sites.{site_of_key, AreSiteKeys}
use Rattle.lfg_instant.proofs.CountLaws.{one_choices, literal_count_by_keys}
use Rattle.lfg_instant.proofs.InstanceLaws.{literals_hold, facts_hold}
use Rattle.lfg_instant.proofs.SiteLaws.{sites_once, sites_are_all}

-- ---- lists

pub get_behind : {X : Type 0} (xs : List X) (n i : ℕ) → slice_get (drop n xs) i ≡ slice_get xs (n + i)
get_behind xs zero i = let e : i ≡ 0 + i = omega arith in ap (λ k. slice_get xs k) e
get_behind [] (suc n) i = refl
get_behind (x ∷ xs) (suc n) i = let e : suc (n + i) ≡ suc n + i = omega arith in get_behind xs n i ∙ ap (λ k. slice_get (x ∷ xs) k) e

drop_none : {X : Type 0} (n : ℕ) → drop n (let none : List X = [] in none) ≡ []
drop_none zero = refl
drop_none (suc n) = refl

pub drop_more : {X : Type 0} (xs : List X) (n m : ℕ) → drop m (drop n xs) ≡ drop (n + m) xs
drop_more xs zero m = let e : m ≡ 0 + m = omega arith in ap (λ k. drop k xs) e
drop_more [] (suc n) m = drop_none m ∙ sym (drop_none (suc n + m))
drop_more (x ∷ xs) (suc n) m = let e : suc (n + m) ≡ suc n + m = omega arith in drop_more xs n m ∙ ap (λ k. drop k (x ∷ xs)) e

get_before : {X : Type 0} (xs : List X) (n i : ℕ) (x : X) → slice_get (take n xs) i ≡ Some x → slice_get xs i ≡ Some x
get_before xs zero i x h = cc
get_before [] (suc n) i x h = cc
get_before (y ∷ xs) (suc n) zero x h = h
get_before (y ∷ xs) (suc n) (suc i) x h = get_before xs n i x h

length_behind : {X : Type 0} (xs : List X) (n : ℕ) → n ≤ length xs → length (drop n xs) + n ≡ length xs
length_behind xs zero l = omega arith
length_behind [] (suc n) l = omega arith
length_behind (x ∷ xs) (suc n) l = let r = length_behind xs n (omega arith) in omega (arith, r)

length_before : {X : Type 0} (xs : List X) (n : ℕ) → n ≤ length xs → length (take n xs) ≡ n
length_before xs zero l = refl
length_before [] (suc n) l = omega arith
length_before (x ∷ xs) (suc n) l = ap suc (length_before xs n (omega arith))

-- the part of a list that stands behind n of its elements, and has m
abbrev pub part : {X : Type 0} → ℕ → ℕ → List X → List X
part n m xs = take m (drop n xs)

pub part_get : {X : Type 0} (xs : List X) (n m i : ℕ) (x : X) → slice_get (part n m xs) i ≡ Some x → slice_get xs (n + i) ≡ Some x
part_get xs n m i x h = sym (get_behind xs n i) ∙ get_before (drop n xs) m i x h

pub part_length : {X : Type 0} (xs : List X) (n m : ℕ) → n + m ≤ length xs → length (part n m xs) ≡ m
part_length xs n m l = let b = length_behind xs n (omega arith) in length_before (drop n xs) m (omega (arith, b))

pub rest_length : {X : Type 0} (xs : List X) (n m : ℕ) → length xs ≡ n + m → length (drop n xs) ≡ m
rest_length xs n m l = let b = length_behind xs n (omega arith) in omega (arith, b)

-- what was made stays made in a part
In_behind : {X : Type 0} (xs : List X) (n : ℕ) (x : X) → In x (drop n xs) → In x xs
In_behind xs zero x h = h
In_behind [] (suc n) x h = h
In_behind (y ∷ xs) (suc n) x h = later (In_behind xs n x h)

-- ---- whether a sentence has a derivation

-- the edge of the whole sentence is there where the sentence has a derivation, and only there
root_stands : (g : Grammar) (s : List TokenForms) (d : Tree) → Whole g s d → Stands g s (AnEdge (edge g.root 0 (length s)))
root_stands g s d whole = record { derivation = d; whole = whole; has = has_edge g s d (edge g.root 0 (length s)) whole.derives }

pub no_root : (g : Grammar) (s : List TokenForms) (edges : List Edge) (forks : List Fork) → IsChart g s edges forks → ¬ In (edge g.root 0 (length s)) edges → HasNoDerivation g s
no_root g s edges forks chart away d whole = away ((chart.all_edges.exact _).1 (root_stands g s d whole))

pub has_derivation : (g : Grammar) (s : List TokenForms) (edges : List Edge) (forks : List Fork) → IsChart g s edges forks → (e : Edge) → In e edges → ¬ HasNoDerivation g s
has_derivation g s edges forks chart e i none = let st = (chart.all_edges.exact e).0 i in none st.derivation st.whole

nothing_in : {X : Type 0} (xs : List X) → ((x : X) → ¬ In x xs) → xs ≡ []
nothing_in [] h = refl
nothing_in (x ∷ xs) h = absurd (h x here)

-- without a derivation there are no items, entries and facts
no_keys : (g : Grammar) (s : List TokenForms) (keys : List ChoiceKey) → AreSiteKeys g s keys → HasNoDerivation g s → keys ≡ []
no_keys g s keys are none = nothing_in keys (λ k i. let r = (are.exact k).0 i in none (r.1).1.derivation (r.1).1.whole)

no_facts : (g : Grammar) (s : List TokenForms) (facts : List Fact) → Lists fact_cmp (IsTreeFact g s) facts → HasNoDerivation g s → facts ≡ []
no_facts g s facts are none = nothing_in facts (λ f i. let r = (are.exact f).0 i in none (r.1).derivation (r.1).whole)

-- ---- things beside their sets

pub beside_more : {X : Type 0} (xs : List X) (sets : List Set) (i : ℕ) (x : X) (z : Set) → i < length xs → i < length sets → x ≡ get_or xs i x → z ≡ get_or sets i z
    → beside (take (i + 1) xs) (take (i + 1) sets) ≡ beside (take i xs) (take i sets) ++ (x, z) ∷ []
beside_more [] sets i x z l m e f = absurd (let no : i < 0 = l in omega arith)
beside_more (y ∷ xs) [] i x z l m e f = absurd (let no : i < 0 = m in omega arith)
beside_more (y ∷ xs) (w ∷ sets) zero x z l m e f = λ i. (sym e i, sym f i) ∷ []
beside_more {X} (y ∷ xs) (w ∷ sets) (suc i) x z l m e f =
    let n : suc (i + 1) ≡ suc i + 1 = omega arith in
    let P : ℕ → Type 0 = λ k. beside (take k (y ∷ xs)) (take k (w ∷ sets)) ≡ beside (take (suc i) (y ∷ xs)) (take (suc i) (w ∷ sets)) ++ (x, z) ∷ [] in
    subst P n (ap (λ (ps : List (X × Set)). (y, w) ∷ ps) (beside_more xs sets i x z (omega arith) (omega arith) e f))

beside_things : {X : Type 0} (xs : List X) (sets : List Set) → length sets ≡ length xs → map (λ x. x.0) (beside xs sets) ≡ xs
beside_things [] sets l = refl
beside_things (x ∷ xs) [] l = absurd (let no : 0 ≡ suc (length xs) = l in omega arith)
beside_things (x ∷ xs) (z ∷ sets) l = ap (λ ys. x ∷ ys) (beside_things xs sets (omega arith))

In_sets : {X : Type 0} (xs : List X) (sets : List Set) (p : X × Set) → In p (beside xs sets) → In p.1 sets
In_sets [] sets p i = In-nil i
In_sets (x ∷ xs) [] p i = In-nil i
In_sets {X} (x ∷ xs) (z ∷ sets) p i = elim (In-cons_cases i) [
  | inl same ↦ (let P : Set → Type 0 = λ w. In w (z ∷ sets) in subst P (sym (ap (λ (q : X × Set). q.1) same)) here)
  | inr rest ↦ later (In_sets xs sets p rest)
]

pub made_beside : {X : Type 0} (k : Known) (xs : List X) (sets : List Set) → AreMade k (λ z. z) sets → AreMade k (λ p. p.1) (beside xs sets)
made_beside {X} k xs sets m = record { each = λ p i. m.each p.1 (In_sets xs sets p i) }

pub made_behind : (k : Known) (sets : List Set) (n : ℕ) → AreMade k (λ z. z) sets → AreMade k (λ z. z) (drop n sets)
made_behind k sets n m = record { each = λ z i. m.each z (In_behind sets n z i) }

In_before : {X : Type 0} (xs : List X) (n : ℕ) (x : X) → In x (take n xs) → In x xs
In_before xs zero x i = In-nil i
In_before [] (suc n) x i = i
In_before {X} (y ∷ xs) (suc n) x i = elim (In-cons_cases i) [
  | inl same ↦ (let P : X → Type 0 = λ w. In w (y ∷ xs) in subst P (sym same) here)
  | inr rest ↦ later (In_before xs n x rest)
]

pub made_part : (k : Known) (sets : List Set) (n m : ℕ) → AreMade k (λ z. z) sets → AreMade k (λ z. z) (part n m sets)
made_part k sets n m made = record { each = λ z i. made.each z (In_behind sets n z (In_before (drop n sets) m z i)) }

-- ---- the choices

pub space_of : (g : Grammar) (s : List TokenForms) (js : List Junction) (space : List Choice) → AreJunctions g s js → space ≡ map choice_of (map placed js) → AreSpaceOf g s space
space_of g s js space are is = record { placed = map placed js; all = are.choices; is = is }

pub keys_are_sites : (g : Grammar) (s : List TokenForms) (keys : List ChoiceKey) → AreSiteKeys g s keys → (k : ChoiceKey) → In k keys → IsSiteKey g s k
keys_are_sites g s keys are k i = (are.exact k).0 i

pub count_of_keys : (g : Grammar) (s : List TokenForms) (keys : List ChoiceKey) (n : ℕ) → AreSiteKeys g s keys → n ≡ sum_by (key_size g) keys → IsLiteralCount g s n
count_of_keys g s keys n are e =
    let P : ℕ → Type 0 = λ m. IsLiteralCount g s m in
    subst P (sym e) (literal_count_by_keys g s keys (record { once = sites_once g s keys are; exact = sites_are_all g s keys are }))

-- the size of a sentence as it is computed
pub total_of : (g : Grammar) (given keys : List ChoiceKey) (js : List Junction) (fs : List Fact) (literals choices facts total : ℕ) → given ≡ keys → literals ≡ min (sum_by (key_size g) given) (2 ^ 64 - 1)
    → choices ≡ length js → facts ≡ length fs → total ≡ max literals (max choices facts)
    → total ≡ max (min (sum_by (key_size g) keys) (2 ^ 64 - 1)) (max (length (map placed js)) (length fs))
total_of g given keys js fs literals choices facts total e l c f is =
    let m : literals ≡ min (sum_by (key_size g) keys) (2 ^ 64 - 1) = l ∙ ap (λ (ks : List ChoiceKey). min (sum_by (key_size g) ks) (2 ^ 64 - 1)) e in
    let n : choices ≡ length (map placed js) = c ∙ sym (as_many js) in
    is ∙ (λ i. max (m i) (max (n i) (f i)))
  where
    as_many : (us : List Junction) → length (map placed us) ≡ length us
    as_many [] = refl
    as_many (u ∷ us) = ap suc (as_many us)

-- the items and entries of the keys
pub sites_of_keys : (g : Grammar) (s : List TokenForms) (keys : List ChoiceKey) → AreSiteKeys g s keys → AreSites g s (map site_of_key keys)
sites_of_keys g s keys are = record { once = sites_once g s keys are; exact = sites_are_all g s keys are }

-- ---- the literals and the facts

module _ (g : Grammar) (s : List TokenForms) (js : List Junction) (are : AreJunctions g s js) (chart : ChartForm) (lists : List (List ℕ)) (steps : List Step) (words : List Word)
    (keys : List ChoiceKey) (facts : List Fact) (outline : IsOutline g s chart lists steps words keys facts) where
  -- where the sentence has no derivation
  pub no_literals : HasNoDerivation g s → AreLiteralsOf g s []
  no_literals none = record { picked = λ cs a d c p. absurd (none d p.whole); without = λ _ a. refl }

  pub nothing_of_facts : HasNoDerivation g s → AreFactsOf g s []
  nothing_of_facts none =
      let P : List Fact → Type 0 = λ fs. Lists fact_cmp (IsTreeFact g s) fs in
      record { all = subst P (no_facts g s facts outline.all_facts none) outline.all_facts; picked = λ cs a d c p. absurd (none d p.whole); without = λ _ a. refl }

  pub no_count : HasNoDerivation g s → IsLiteralCount g s 0
  no_count none = count_of_keys g s keys 0 outline.all_keys (sym (ap (λ (ks : List ChoiceKey). sum_by (key_size g) ks) (no_keys g s keys outline.all_keys none)))

  module _ (root : Edge) (there : In root chart.edges) (table : List Set) (reached : IsReachedTable g s (map placed js) chart lists keys facts table) where
    abbrev pub nodes : ℕ
    nodes = length chart.edges + length (points_of chart.forks)

    pub literals_are : (list : List (Literal × Set)) → ((a : Assignment) → holding list a ≡ listed_of (key_literals g s (map placed js) a) keys (part nodes (length keys) table) a) → AreLiteralsOf g s list
    literals_are list is = record {
      picked = λ cs a d c p.
          (let same : cs ≡ map placed js = one_choices g s cs (map placed js) c are.choices in
          let Q : List PlacedChoice → Type 0 = λ zs. IsPickedBy g s zs a d in
          let P : List Literal → Type 0 = λ ls. IsPermutation ls (literals g d 0) in
          subst P (sym (is a)) (literals_hold g s outline.loaded (map placed js) are.choices chart outline.is_chart lists outline.entries a d (subst Q same p) keys (part nodes (length keys) table)
          (part_length table nodes (length keys) (let l = reached.len in omega (arith, l))) (sites_once g s keys outline.all_keys) (sites_are_all g s keys outline.all_keys)
          (λ i k set e f. reached.sites.each i k set e (part_get table nodes (length keys) i set f) a)));
      without = λ none. absurd (has_derivation g s chart.edges chart.forks outline.is_chart root there none);
    }

    pub facts_are : (list : List (Fact × Set)) → list ≡ beside facts (drop (nodes + length keys) table) → AreFactsOf g s list
    facts_are list is =
        let sets : List Set = drop (nodes + length keys) table in
        let len : length sets ≡ length facts = rest_length table (nodes + length keys) (length facts) (let l = reached.len in omega (arith, l)) in
        let P : List (Fact × Set) → Type 0 = λ ls. AreFactsOf g s ls in
        subst P (sym is) (record {
          all = (let Q : List Fact → Type 0 = λ fs. Lists fact_cmp (IsTreeFact g s) fs in subst Q (sym (beside_things facts sets len)) outline.all_facts);
          picked = λ cs a d c p.
              (let same : cs ≡ map placed js = one_choices g s cs (map placed js) c are.choices in
              let R : List PlacedChoice → Type 0 = λ zs. IsPickedBy g s zs a d in
              facts_hold g s outline.loaded (map placed js) are.choices chart outline.is_chart lists outline.entries a d (subst R same p) facts sets len outline.all_facts
              (λ i f set e h. reached.facts_reached.each i f set e (sym (get_behind table (nodes + length keys) i) ∙ h) a));
          without = λ none. absurd (has_derivation g s chart.edges chart.forks outline.is_chart root there none);
        })
