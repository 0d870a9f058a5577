-- What is judged at each assignment is so of the derivation that it picks; so the packed value is that of
-- the sentence.
use Rattle.std.proofs.Common.{◌≡◌, ◌≢◌, ℕ, suc, ◌<◌, ◌≤◌, Bool, true, false, List, [], ◌∷◌, map, length, refl, sym, ap, ◌∙◌, subst, inl, inr, ◌⊎◌, arith}
use Rattle.std.specs.Prelude.{◌↔◌, cond, max, Result, Ok, Err, IfErr}
use Rattle.std.specs.Result.{IsErrAnd}
use Rattle.lfg_parse.specs.declared.fault.ParseFault.{ParseFault}
use Rattle.std.specs.List.Sorted.{IsStrictlySortedBy, IsPermutation}
use Rattle.std.proofs.lemmas.List.Sorted.{Contains-permutation, IsPermutation-sym}
use Rattle.lfg_terms.specs.Order.{fact_cmp}
use Rattle.lfg_terms.specs.FactTexts.{IsListedFact}
use Rattle.lfg_terms.specs.declared.node.Edge.{Edge}
use Rattle.lfg_terms.specs.declared.node.Fact.{Fact}
use Rattle.lfg_terms.specs.declared.literal.Literal.{Literal}
use Rattle.lfg_terms.specs.declared.choice.Choice.{Choice}
use Rattle.lfg_terms.specs.declared.grammar.Grammar.{Grammar}
use Rattle.lfg_terms.specs.declared.tree.TokenForms.{TokenForms}
use Rattle.lfg_context.specs.Seen.{Set, Known}
use Rattle.lfg_context.specs.Sets.{Assignment, member, arity_of, IsMade, DependsOnFirst}
use Rattle.lfg_context.specs.Telling.{Tells}
use Rattle.lfg_context.proofs.Depending.{unpicked_blind}
use Rattle.lfg_model.specs.declared.pair.Pair.{Pair}
use Rattle.lfg_model.specs.Charts.{Fork, IsChart}
use Rattle.lfg_model.specs.Derive.{Whole}
use Rattle.lfg_model.specs.Kept.{a_word}
use Rattle.lfg_model.specs.Lists.{In, here, later, Lists}
use Rattle.lfg_model.specs.Literals.{checks}
use Rattle.lfg_model.specs.Loaded.{Loaded}
use Rattle.lfg_model.specs.Readings.{solution_of, Assigned, IsFact, IsPairOf, IsReading, IsReadings}
use Rattle.lfg_model.specs.Solve.{solution, AreAlike, IsWellFormed}
use Rattle.lfg_model.specs.Spots.{AnEdge, AWord, Stands}
use Rattle.lfg_model.specs.Terms.{Tree}
use Rattle.lfg_model.specs.Trees.{literals, tree_facts}
use Rattle.lfg_model.proofs.Alike.{alike_turned, fact_alike}
use Rattle.lfg_model.proofs.ChartLaws.{kept_edge_stands, Lists-same}
use Rattle.lfg_model.proofs.Standing.{kept_is_standing}
use Rattle.lfg_model.proofs.ListLaws.{In-nil, In-map, In_from_map, Contains_from_In, In_from_Contains}
use Rattle.lfg_model.proofs.ReadingLaws.{sets_of_facts_are_one}
use Rattle.lfg_packed.specs.Assignments.{IsPickedBy}
use Rattle.lfg_packed.specs.Choices.{PlacedChoice, AreChoices}
use Rattle.lfg_packed.specs.Layouts.{AreWords}
use Rattle.lfg_packed.specs.ParseCounts.{IsReadingFact, IsParseCount, IsParseAbove, by_instances, by_facts}
use Rattle.lfg_packed.specs.Words.{AreEntries}
use Rattle.lfg_packed.proofs.LoadedGives.{fillable}
use Rattle.lfg_packed.proofs.Selecting.{some_is_picked_by}
use Rattle.lfg_instant.specs.Holding as instant
use Rattle.lfg_instant.specs.Instants.{AreLiteralsOf, AreFactsOf, IsWithin, IsInstantFault}
use Rattle.lfg_instant.specs.declared.fault.InstantFault.{InstantFault}
use Rattle.lfg_instant.specs.declared.fault.InstantFault.TheVariants as instant_fault
use Rattle.lfg_instant.specs.Picked.{HavePickedOf}
use Rattle.lfg_unify.specs.Holding.{holding, Stated}
use Rattle.lfg_unify.proofs.Closed.{holds_in, in_holds}
use Rattle.lfg_store.specs.Facts.{Entries, held, facts_at, facts_of, HasMember, IsStore}
use Rattle.lfg_store.specs.Packing.{AreMadeBy, ArePacked, IsPacked}
use Rattle.lfg_store.specs.Unpacking.{pair_of, pair_at, IsUnpacked, AreUnpacked}
use Rattle.lfg_store.specs.declared.packed.Packed.{Packed}
use Rattle.lfg_store.proofs.Packings.{lies_from_facts}
use Rattle.lfg_store.proofs.Held.{held_from, In-held}
use Rattle.lfg_parse.specs.Judging.{IsWellFormedAt, IsGood, IsJudged}
use Rattle.lfg_parse.specs.Packs.{PicksAssigned, Packs, HaveNoNewNode, UnpacksToReadings, IsParseWithin, IsParseFault}
use Rattle.lfg_parse.specs.Faults.{as_parse_fault}
use Rattle.lfg_parse.proofs.EdgeNodes.{derivation_plain}
use Rattle.lfg_parse.proofs.Entries.{entries_for, kept_word}
use Rattle.lfg_parse.proofs.Picking.{all_are_picked}
use Rattle.lfg_parse.proofs.Solutions.{Includes, one_solution, one_judgement}

-- ---- what holds, in the words of each crate

same_holding : {X : Type 0} (xs : List (X × Set)) (a : Assignment) → instant.holding xs a ≡ holding xs a
same_holding [] a = refl
same_holding {X} (x ∷ xs) a = ap (λ (rest : List X). cond (member x.1 a) (x.0 ∷ rest) rest) (same_holding xs a)

stated_from : {X : Type 0} (xs : List (X × Set)) (a : Assignment) (x : X) → In x (instant.holding xs a) → Stated xs a x
stated_from {X} xs a x i = let h = in_holds xs a x (let P : List X → Type 0 = λ v. In x v in subst P (same_holding xs a) i) in record { set = h.0; listed = h.1; holds = h.2 }

from_stated : {X : Type 0} (xs : List (X × Set)) (a : Assignment) (x : X) → Stated xs a x → In x (instant.holding xs a)
from_stated {X} xs a x s = let P : List X → Type 0 = λ v. In x v in subst P (sym (same_holding xs a)) (holds_in xs a x s.set s.listed s.holds)

permuted : {X : Type 0} (xs ys : List X) (x : X) → IsPermutation xs ys → In x xs → In x ys
permuted xs ys x p i = In_from_Contains ys x (Contains-permutation xs ys x p (Contains_from_In i))

length-map : (es : Entries) → length (facts_of es) ≡ length es
length-map [] = refl
length-map (e ∷ es) = ap suc (length-map es)

-- ---- the entries of all edges

words_of : Grammar → List TokenForms → List Edge → List (Edge × List ℕ)
words_of g s edges = map (λ e. (e, (entries_for g s e).0)) edges

beside_edges : (g : Grammar) (s : List TokenForms) (edges : List Edge) → map (λ w. w.0) (words_of g s edges) ≡ edges
unfolding words_of
beside_edges g s [] = refl
beside_edges g s (e ∷ es) = ap (λ (rest : List Edge). e ∷ rest) (beside_edges g s es)

module _ (g : Grammar) (s : List TokenForms) (loaded : Loaded g) where
  entries_at_edge : (e : Edge) → Stands g s (AnEdge e) → AreEntries g s e (entries_for g s e).0
  entries_at_edge e st =
      let fill = fillable g loaded in
      let kept = (kept_edge_stands g s fill e).1 st in
      Lists-same (λ n. (
        (λ w. (kept_is_standing g s fill (AWord e n)).0 (a_word kept w)),
        (λ there. kept_word g s loaded (AWord e n) ((kept_is_standing g s fill (AWord e n)).1 there)),
      )) (entries_for g s e).1

  are_words : (edges : List Edge) (forks : List Fork) → IsChart g s edges forks → AreWords g s edges (words_of g s edges)
  unfolding words_of
  are_words edges forks chart = record {
    beside = beside_edges g s edges;
    each = λ w i.
        let r = In_from_map (λ e. (e, (entries_for g s e).0)) edges i in
        let P : Edge × List ℕ → Type 0 = λ v. AreEntries g s v.0 v.1 in
        subst P r.2 (entries_at_edge r.0 ((chart.all_edges.exact r.0).0 r.1));
  }

-- ---- the derivation that an assignment picks

module _ (g : Grammar) (s : List TokenForms) (loaded : Loaded g) (edges : List Edge) (forks : List Fork) (chart : IsChart g s edges forks)
    (cs : List PlacedChoice) (choices : AreChoices g s cs) (ls : List (Literal × Set)) (are : AreLiteralsOf g s ls) where
  held_there : (a : Assignment) (d : Tree) → IsPickedBy g s cs a d → Includes (holding ls a) (literals g d 0)
  held_there a d p l i =
      let P : List Literal → Type 0 = λ v. In l v in
      permuted (instant.holding ls a) (literals g d 0) l (are.picked cs a d choices p) (subst P (sym (same_holding ls a)) i)

  held_back : (a : Assignment) (d : Tree) → IsPickedBy g s cs a d → Includes (literals g d 0) (holding ls a)
  held_back a d p l i =
      let P : List Literal → Type 0 = λ v. In l v in
      subst P (same_holding ls a) (permuted (literals g d 0) (instant.holding ls a) l (IsPermutation-sym (instant.holding ls a) (literals g d 0) (are.picked cs a d choices p)) i)

  alike : (a : Assignment) (d : Tree) → IsPickedBy g s cs a d → AreAlike (solution (holding ls a)) (solution_of g d)
  alike a d p = one_solution (holding ls a) (literals g d 0) (held_there a d p) (held_back a d p)

  assigned_there : (a : Assignment) (d : Tree) → IsPickedBy g s cs a d → IsWellFormedAt g ls a → Assigned g s d
  assigned_there a d p w = record { whole = p.whole; well_formed = one_judgement (holding ls a) (literals g d 0) g.governable (held_there a d p) (held_back a d p) w }

  assigned_back : (a : Assignment) (d : Tree) → IsPickedBy g s cs a d → Assigned g s d → IsWellFormedAt g ls a
  assigned_back a d p w = one_judgement (literals g d 0) (holding ls a) g.governable (held_back a d p) (held_there a d p) w.well_formed

  fact_there : (a : Assignment) (d : Tree) (f : Fact) → IsPickedBy g s cs a d → IsFact (solution (holding ls a)) f → IsFact (solution_of g d) f
  fact_there a d f p h = fact_alike (solution (holding ls a)) (solution_of g d) (alike a d p) f h

  fact_back : (a : Assignment) (d : Tree) (f : Fact) → IsPickedBy g s cs a d → IsFact (solution_of g d) f → IsFact (solution (holding ls a)) f
  fact_back a d f p h = fact_alike (solution_of g d) (solution (holding ls a)) (alike_turned (alike a d p)) f h

  module _ (listed : Entries) (facts_listed : AreFactsOf g s listed) (good : Set) (tree facts : Entries) (j : IsJudged g s ls listed good tree facts) where
    good_there : (a : Assignment) → member good a ≡ true → PicksAssigned g s cs a
    good_there a m =
        let w = (j.good_is.each a).0 m in
        let p = some_is_picked_by g s cs a loaded choices edges forks chart (words_of g s edges) (are_words g s loaded edges forks chart) w.derivation w.whole in
        record { derivation = p.0; picked = p.1; assigned = assigned_there a p.0 p.1 w.well_formed }

    good_back : (a : Assignment) → PicksAssigned g s cs a → member good a ≡ true
    good_back a p = (j.good_is.each a).1 (record { derivation = p.derivation; whole = p.picked.whole; well_formed = assigned_back a p.derivation p.picked p.assigned })

    pub good_tells : Tells good (PicksAssigned g s cs)
    good_tells = record { each = λ a. (good_there a, good_back a) }

    pub pair_is : (a : Assignment) (d : Tree) → member good a ≡ true → IsPickedBy g s cs a d → IsPairOf g s d (pair_of tree facts a)
    pair_is a d m p = record {
      tree = Lists-same (λ f. (
        (λ h. (facts_listed.picked cs a d choices p f).0 (from_stated listed a f h.0)),
        (λ i. (stated_from listed a f ((facts_listed.picked cs a d choices p f).1 i), m)),
      )) (j.tree_is a);
      facts = Lists-same (λ f. ((λ h. fact_there a d f p h.1), (λ h. (m, fact_back a d f p h)))) (j.facts_are a);
    }

    -- some good assignment has the fact
    fact_of_store : IsStore facts → (f : Fact) → In f (facts_of facts) → IsReadingFact g s f
    fact_of_store store f i =
        let r = In_from_map (λ (e : Fact × Set). e.0) facts i in
        let h = store.stands r.0 r.1 in
        let P : Fact → Type 0 = λ v. In v (facts_at facts h.assignment) in
        let w = ((j.facts_are h.assignment).exact f).0 (subst P r.2 (In-held facts h.assignment r.0 r.1 h.has)) in
        let t = good_there h.assignment w.0 in
        record { derivation = t.derivation; assigned = t.assigned; fact = fact_there h.assignment t.derivation f t.picked w.1 }

    store_of_fact : (f : Fact) → IsReadingFact g s f → In f (facts_of facts)
    store_of_fact f r =
        let p = all_are_picked g s cs loaded choices edges forks chart r.derivation r.assigned.whole in
        let m = good_back p.0 (record { derivation = r.derivation; picked = p.1; assigned = r.assigned }) in
        let i = ((j.facts_are p.0).exact f).1 (m, fact_back p.0 r.derivation f p.1 r.fact) in
        let h = held_from facts p.0 f i in
        let P : Fact → Type 0 = λ v. In v (facts_of facts) in
        subst P h.2 (In-map (λ (e : Fact × Set). e.0) h.1)

    reading_facts : IsStore facts → Lists fact_cmp (IsReadingFact g s) (facts_of facts)
    reading_facts store = record { ascends = store.ascends; exact = λ f. (fact_of_store store f, store_of_fact f) }

    pub plain : IsStore facts → HaveNoNewNode facts
    plain store = record { each = λ f i. let r = fact_of_store store f i in derivation_plain g r.derivation f r.fact }

    -- ---- the readings

    one_set : {P : Fact → Type 0} (fs gs : List Fact) → Lists fact_cmp P fs → Lists fact_cmp P gs → fs ≡ gs
    one_set fs gs l k = sets_of_facts_are_one fs gs l.ascends k.ascends (λ f. ((λ i. (k.exact f).1 ((l.exact f).0 i)), (λ i. (l.exact f).1 ((k.exact f).0 i))))

    one_pair : (d : Tree) (p q : Pair) → IsPairOf g s d p → IsPairOf g s d q → p ≡ q
    one_pair d p q h k =
        let t = one_set p.tree q.tree h.tree k.tree in
        let f = one_set p.facts q.facts h.facts k.facts in
        λ i. record { tree = t i; facts = f i }

    pub reading_of : (a : Assignment) (q : Pair) → member good a ≡ true → pair_of tree facts a ≡ q → IsReading g s q
    reading_of a q m e =
        let t = good_there a m in
        let P : Pair → Type 0 = λ v. IsPairOf g s t.derivation v in
        record { derivation = t.derivation; assigned = t.assigned; pair = subst P e (pair_is a t.derivation m t.picked) }

    pub of_reading : (q : Pair) → IsReading g s q → (a : Assignment) × (member good a ≡ true) × (pair_of tree facts a ≡ q)
    of_reading q r =
        let p = all_are_picked g s cs loaded choices edges forks chart r.derivation r.assigned.whole in
        let m = good_back p.0 (record { derivation = r.derivation; picked = p.1; assigned = r.assigned }) in
        (p.0, m, one_pair r.derivation (pair_of tree facts p.0) q (pair_is p.0 r.derivation m p.1) r.pair)

    -- ---- the count

    pub count_within : IsStore facts → IsWithin g s g.maxfacts → length facts ≤ g.maxfacts → IsParseWithin g s g.maxfacts
    count_within store w below = record {
      count = max w.0 (length (facts_of facts));
      counted = record { instances = w.0; counted = w.1; facts = facts_of facts; are_facts = reading_facts store; is = refl };
      not_above = max_below w.0 (length (facts_of facts)) g.maxfacts w.2 (same_length facts g.maxfacts below);
    }
      where
        max_below : (m n k : ℕ) → m ≤ k → n ≤ k → max m n ≤ k
        max_below m n k h l = grind arith

        same_length : (es : Entries) (k : ℕ) → length es ≤ k → length (facts_of es) ≤ k
        same_length es k h = subst (λ (n : ℕ). n ≤ k) (sym (length-map es)) h

    pub count_above : IsStore facts → g.maxfacts < length facts → IsParseAbove g s g.maxfacts
    count_above store above = by_facts (reading_facts store) (subst (λ (n : ℕ). g.maxfacts < n) (sym (length-map facts)) above)

-- a fault of the literals' making is one of the parse
pub fault_is : (g : Grammar) (s : List TokenForms) (f : InstantFault) → IsInstantFault g s g.maxfacts f → IsParseFault g s (as_parse_fault f)
fault_is g s (instant_fault.TooLarge count) h = (by_instances h.0.1 h.0.2, h.1)
fault_is g s instant_fault.Memory h = tt

pub told_by : {T : Type 0} (g : Grammar) (s : List TokenForms) (f : InstantFault) (r : Result T ParseFault) → IsErrAnd r (λ it. it ≡ as_parse_fault f) → IsInstantFault g s g.maxfacts f → IfErr r (IsParseFault g s)
told_by g s f (Ok v) e h = tt
told_by g s f (Err it) e h = let P : ParseFault → Type 0 = λ v. IsParseFault g s v in subst P (sym e) (fault_is g s f h)

-- ---- the packed value

module _ (k : Known) (space : List Choice) (picks : HavePickedOf k space) where
  -- sets depend on the choices of the space alone, since no other was picked
  depends : (x : Set) → IsMade k x → DependsOnFirst (length space) x
  depends x m = record { blind = λ c le. unpicked_blind c m (low (arity_of k c) (picks.only c le)) }
    where
      low : (n : ℕ) → n ≡ 0 → n < 2
      low n e = omega (arith, e)

  are_packed : (good : Set) (es : Entries) → AreMadeBy k es → ((a : Assignment) (f : Fact) → In f (facts_at es a) → member good a ≡ true) → ArePacked k space good es
  are_packed good es m h = record {
    made = m;
    depend = record { each = λ e i. depends e.1 (m.each e i) };
    within = lies_from_facts good es h;
  }

  pub is_packed : (g : Grammar) (s : List TokenForms) (ls : List (Literal × Set)) (listed : Entries) (good : Set) (tree facts : Entries)
      → IsMade k good → AreMadeBy k tree → AreMadeBy k facts → IsJudged g s ls listed good tree facts → IsPacked k space good tree facts
  is_packed g s ls listed good tree facts made tree_made facts_made j = record {
    good_made = made;
    good_depends = depends good made;
    tree_packed = are_packed good tree tree_made (λ a f i. (((j.tree_is a).exact f).0 i).1);
    facts_packed = are_packed good facts facts_made (λ a f i. (((j.facts_are a).exact f).0 i).0);
    picks = picks.agree;
    behind = λ c le some. absurd (some (picks.only c le));
  }
