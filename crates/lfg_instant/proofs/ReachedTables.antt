-- What flows over the passages of a sentence is the table of what is reached.
use Rattle.std.proofs.Common.{◌≡◌, ◌↔◌, ℕ, ◌+◌, inl, inr, true, Option, Some, List, [], ◌∷◌, ◌++◌, length, map, slice_get, refl, sym, ap, subst, ◌∙◌, arith}
use Rattle.std.proofs.lemmas.Option.{same_Some, slice_get_within}
use Rattle.lfg_terms.specs.declared.node.Edge.{Edge}
use Rattle.lfg_terms.specs.declared.node.Fact.{Fact}
use Rattle.lfg_terms.specs.declared.literal.Site.{Site}
use Rattle.lfg_terms.specs.declared.literal.Site.TheVariants as site
use Rattle.lfg_terms.specs.declared.grammar.Grammar.{Grammar}
use Rattle.lfg_terms.specs.declared.tree.TokenForms.{TokenForms}
use Rattle.lfg_chart.specs.Chart.{ChartForm}
use Rattle.lfg_context.specs.Seen.{Set}
use Rattle.lfg_context.specs.Sets.{Assignment, member}
use Rattle.lfg_model.specs.declared.point.Point.{Point}
use Rattle.lfg_model.specs.declared.point.Next.TheVariants as next
use Rattle.lfg_model.specs.Charts.{points_of}
use Rattle.lfg_model.specs.Derive.{edge}
use Rattle.lfg_model.specs.Lists.{In, here, later, Once}
use Rattle.lfg_model.specs.Picked.{Selection, Mark, OfEdge, OfPoint, Reached, the_root, starts, goes, enters, SiteReached, IsReached}
use Rattle.lfg_model.specs.Picked as picked
use Rattle.lfg_model.specs.Spots.{point, Spot, AnEdge, AStep, AWord, APick}
use Rattle.lfg_model.specs.Terms.{Name}
use Rattle.lfg_model.specs.Trees.{word_facts}
use Rattle.lfg_model.proofs.ListLaws.{In-nil, In-map}
use Rattle.lfg_packed.specs.declared.key.ChoiceKey.{ChoiceKey}
use Rattle.lfg_packed.specs.Assignments.{alternative_at}
use Rattle.lfg_packed.specs.ChoicePoints.{NextAt, EntryAt}
use Rattle.lfg_packed.specs.Choices.{PlacedChoice, AreChoices}
use Rattle.lfg_packed.specs.SpotFacts.{category_at, spot_facts}
use Rattle.lfg_packed.proofs.Listing.{In_get, get_In, get_below}
use Rattle.lfg_instant.specs.declared.flow.Passage.{Passage}
use Rattle.lfg_instant.specs.declared.steps.Step.{Step}
use Rattle.lfg_instant.specs.declared.steps.Word.{Word}
use Rattle.lfg_instant.specs.Flow.{Flows, at_root, along, IsFlow}
use Rattle.lfg_instant.specs.Outlines.{IsOutline, IsReachedTable}
use Rattle.lfg_instant.specs.Sites.{site_key, site_of_key}
use Rattle.lfg_instant.specs.Ways.{Thing, TheEdge, ThePoint, TheSite, TheFact, things_of, daughter_things, over_things, IsStart, IsOverStep, IsToEntry, ArePassages, AreStepPicks, AreWordPicks, ArePicks}
use Rattle.lfg_instant.proofs.WayLaws.{once_place, get_front, get_behind, edge_place, point_place, site_place, fact_place, thing_at, once_outline}
use Rattle.lfg_instant.proofs.ReachedLaws.{under_thing, item_category, site_back, Holds, c, step_taken, start_leads, step_leads, word_leads, root_reached, edge_there, point_there, StepThere, step_there, WordThere, word_there}

-- ---- the picks by their numbers

pick_all : (ss ws picks : List Set) → (p : ArePicks ss ws picks) → slice_get picks 0 ≡ Some p.all
pick_all ss ws picks p = ap (λ xs. slice_get xs 0) p.are

pick_step : (ss ws picks : List Set) → ArePicks ss ws picks → (n : ℕ) (x : Set) → slice_get ss n ≡ Some x → slice_get picks (1 + n) ≡ Some x
pick_step ss ws picks p n x e =
    ap (λ xs. slice_get xs (1 + n)) p.are ∙ get_behind (p.all ∷ []) (ss ++ ws) n (1 + n) x (omega arith) (get_front ss ws n x e)

pick_word : (ss ws picks : List Set) → ArePicks ss ws picks → (m n : ℕ) (x : Set) → length ss ≡ m → slice_get ws n ≡ Some x → slice_get picks (1 + m + n) ≡ Some x
pick_word ss ws picks p m n x l e =
    ap (λ xs. slice_get xs (1 + m + n)) p.are
    ∙ get_behind (p.all ∷ []) (ss ++ ws) (m + n) (1 + m + n) x (omega arith) (get_behind ss ws n (m + n) x (omega (arith, l)) e)

zero_on : {X : Type 0} (xs : List X) (i : ℕ) (x : X) → slice_get xs (0 + i) ≡ Some x → slice_get xs i ≡ Some x
zero_on xs i x e = let same : 0 + i ≡ i = omega arith in (let P : ℕ → Type 0 = λ k. slice_get xs k ≡ Some x in subst P same e)

-- one element stands at a place
one_at : {X : Type 0} (xs : List X) (i : ℕ) (x y : X) → slice_get xs i ≡ Some x → slice_get xs i ≡ Some y → x ≡ y
one_at xs i x y p q = same_Some x y (sym p ∙ q)

module _ (g : Grammar) (s : List TokenForms) (cs : List PlacedChoice) (choices : AreChoices g s cs) (chart : ChartForm) (lists : List (List ℕ))
    (steps : List Step) (words : List Word) (keys : List ChoiceKey) (facts : List Fact) (outline : IsOutline g s chart lists steps words keys facts)
    (step_sets word_sets picks : List Set) (step_picks : AreStepPicks g s cs steps step_sets) (word_picks : AreWordPicks g s cs words word_sets)
    (are_picks : ArePicks step_sets word_sets picks) (passages : List Passage) (are : ArePassages g s (things_of chart keys facts) chart.edges steps words passages)
    (root : ℕ) (root_there : slice_get chart.edges root ≡ Some (edge g.root 0 (length s))) where
  abbrev things : List Thing
  things = things_of chart keys facts

  once : Once things
  once = once_outline g s chart keys facts outline.is_chart.all_edges.ascends outline.is_chart.all_points.ascends outline.all_keys.ascends outline.all_facts.ascends

  module _ (a : Assignment) where
    abbrev Is : Thing → Type 0
    Is t = Holds g s outline.loaded cs choices chart lists outline.is_chart outline.entries a t

    abbrev Flow : ℕ → Type 0
    Flow i = Flows passages picks root a i

    -- a thing that holds, at its place
    record HeldAt (i : ℕ) : Type 0 where
      thing : Thing
      at : slice_get things i ≡ Some thing
      holds : Is thing

    -- ---- what flows there is reached

    holds_at : (t : Thing) (i : ℕ) → slice_get things i ≡ Some t → HeldAt i → Is t
    holds_at t i e h = subst Is (one_at things i h.thing t h.at e) h.holds

    over_start : (p : Passage) → IsStart things chart.edges p → HeldAt p.from → HeldAt p.to
    over_start p (n, e, get, j) h = record {
      thing = ThePoint (point e 0 e.from);
      at = j.end;
      holds = start_leads g s outline.loaded cs choices chart lists outline.is_chart outline.entries a e
          (thing_at chart keys facts (ThePoint (point e 0 e.from)) p.to j.end) (holds_at (TheEdge e) p.from j.start h);
    }

    over_step : (p : Passage) (pick : Set) → IsOverStep g s things steps 1 p → slice_get picks p.pick ≡ Some pick → member pick a ≡ true → HeldAt p.from → HeldAt p.to
    over_step p pick (n, st, get, (u, i, j)) there has h =
        let x = get_below step_sets n (let l = step_picks.beside in let w = slice_get_within steps n st get in omega (arith, l, w)) in
        let P : ℕ → Type 0 = λ k. slice_get picks k ≡ Some pick in
        let same : pick ≡ x.0 = one_at picks (1 + n) pick x.0 (subst P j.by_pick there) (pick_step step_sets word_sets picks are_picks n x.0 x.1) in
        let Q : Set → Type 0 = λ y. member y a ≡ true in
        let taken = (step_picks.each n st x.0 get x.1 a).0 (subst Q same has) in
        let of = (outline.all_steps.exact st).0 (get_In steps n st get) in
        record {
          thing = u;
          at = j.end;
          holds = step_leads g s outline.loaded cs choices chart lists outline.is_chart outline.entries a st.point.edge st.point.occ st.point.at st.occ st.to
              (thing_at chart keys facts (ThePoint st.point) p.from j.start) (holds_at (ThePoint st.point) p.from j.start h)
              (step_taken g s outline.loaded cs choices chart lists outline.is_chart outline.entries a st of taken) u i;
        }

    over_word : (p : Passage) (pick : Set) → IsToEntry g s things words (1 + length steps) p → slice_get picks p.pick ≡ Some pick → member pick a ≡ true → HeldAt p.from → HeldAt p.to
    over_word p pick (n, w, get, (u, i, j)) there has h =
        let x = get_below word_sets n (let l = word_picks.beside in let v = slice_get_within words n w get in omega (arith, l, v)) in
        let P : ℕ → Type 0 = λ k. slice_get picks k ≡ Some pick in
        let same : pick ≡ x.0 = one_at picks (1 + length steps + n) pick x.0 (subst P j.by_pick there) (pick_word step_sets word_sets picks are_picks (length steps) n x.0 step_picks.beside x.1) in
        let Q : Set → Type 0 = λ y. member y a ≡ true in
        let taken = (word_picks.each n w x.0 get x.1 a).0 (subst Q same has) in
        let of = (outline.all_words.exact w).0 (get_In words n w get) in
        record {
          thing = u;
          at = j.end;
          holds = word_leads g s outline.loaded cs choices chart lists outline.is_chart outline.entries a w of taken (holds_at (TheEdge w.edge) p.from j.start h) u i;
        }

    sound : {i : ℕ} → Flow i → HeldAt i
    sound at_root = record {
      thing = TheEdge (edge g.root 0 (length s));
      at = edge_place chart keys facts root (edge g.root 0 (length s)) root_there;
      holds = root_reached g s outline.loaded cs choices chart lists outline.is_chart outline.entries a root root_there;
    }
    sound (along p pick there get has f) = elim ((are.exact p).0 there) [
      | inl b ↦ over_start p b (sound f)
      | inr r ↦ elim r [ inl o ↦ over_step p pick o get has (sound f) | inr o ↦ over_word p pick o get has (sound f) ]
    ]

    -- ---- what is reached, flows there

    -- a place of a thing to which it flows
    record FlowsTo (t : Thing) : Type 0 where
      place : ℕ
      at : slice_get things place ≡ Some t
      flows : Flow place

    flows_at : (t : Thing) (i : ℕ) → slice_get things i ≡ Some t → FlowsTo t → Flow i
    flows_at t i e f = subst Flow (once_place things once f.place i t f.at e) f.flows

    by_start : (e : Edge) → Reached g s (c g s outline.loaded cs choices chart lists outline.is_chart outline.entries a) (OfEdge e) → FlowsTo (TheEdge e)
        → (j : ℕ) → slice_get things j ≡ Some (ThePoint (point e 0 e.from)) → Flow j
    by_start e r f j h =
        let n = In_get (edge_there g s outline.loaded cs choices chart lists outline.is_chart outline.entries a root root_there e r) in
        let p : Passage = record { from = f.place; pick = 0; to = j } in
        along p are_picks.all ((are.exact p).1 (inl (n.0, e, n.1, record { start = f.at; by_pick = refl; end = h })))
        (pick_all step_sets word_sets picks are_picks) (are_picks.has_all a) f.flows

    by_step : (p : Point) (occ to : ℕ) → StepThere g s outline.loaded cs choices chart lists outline.is_chart outline.entries a root root_there p occ to → FlowsTo (ThePoint p)
        → (u : Thing) → In u (over_things g s p.edge occ p.at to) → (j : ℕ) → slice_get things j ≡ Some u → Flow j
    by_step p occ to t f u i j h =
        let st : Step = record { place = t.place; point = p; number = alternative_at g s cs a (NextAt p); of = t.number_of; occ = occ; to = to } in
        let n = In_get ((outline.all_steps.exact st).1 t.is) in
        let x = get_below step_sets n.0 (let l = step_picks.beside in let w = slice_get_within steps n.0 st n.1 in omega (arith, l, w)) in
        let q : Passage = record { from = f.place; pick = 1 + n.0; to = j } in
        along q x.0 ((are.exact q).1 (inr (inl (n.0, st, n.1, (u, i, record { start = f.at; by_pick = refl; end = h })))))
        (pick_step step_sets word_sets picks are_picks n.0 x.0 x.1) ((step_picks.each n.0 st x.0 n.1 x.1 a).1 refl) f.flows

    by_word : (e : Edge) (k : ℕ) → WordThere g s outline.loaded cs choices chart lists outline.is_chart outline.entries a root root_there e k → FlowsTo (TheEdge e)
        → (u : Thing) → In u (TheSite (site_key g s (site.Entry e k)) ∷ map TheFact (word_facts (slice_get s e.from) e)) → (j : ℕ) → slice_get things j ≡ Some u → Flow j
    by_word e k t f u i j h =
        let w : Word = record { place = t.place; edge = e; number = alternative_at g s cs a (EntryAt e); of = t.number_of; entry = k } in
        let n = In_get ((outline.all_words.exact w).1 t.is) in
        let x = get_below word_sets n.0 (let l = word_picks.beside in let v = slice_get_within words n.0 w n.1 in omega (arith, l, v)) in
        let q : Passage = record { from = f.place; pick = 1 + length steps + n.0; to = j } in
        along q x.0 ((are.exact q).1 (inr (inr (n.0, w, n.1, (u, i, record { start = f.at; by_pick = refl; end = h })))))
        (pick_word step_sets word_sets picks are_picks (length steps) n.0 x.0 step_picks.beside x.1) ((word_picks.each n.0 w x.0 n.1 x.1 a).1 refl) f.flows

    abbrev thing_of : Mark → Thing
    thing_of (OfEdge e) = TheEdge e
    thing_of (OfPoint p) = ThePoint p

    abbrev sel : Selection
    sel = c g s outline.loaded cs choices chart lists outline.is_chart outline.entries a

    -- the place of something that is reached
    placed : (m : Mark) → Reached g s sel m → (i : ℕ) × (slice_get things i ≡ Some (thing_of m))
    placed (OfEdge e) r =
        let n = In_get (edge_there g s outline.loaded cs choices chart lists outline.is_chart outline.entries a root root_there e r) in
        (n.0, edge_place chart keys facts n.0 e n.1)
    placed (OfPoint p) r =
        let n = In_get (point_there g s outline.loaded cs choices chart lists outline.is_chart outline.entries a root root_there p r) in
        (length chart.edges + n.0, point_place chart keys facts n.0 (length chart.edges + n.0) p refl n.1)

    step_of : (p : Point) (occ to : ℕ) → Reached g s sel (OfPoint p) → sel.next_of p ≡ next.Item occ to → StepThere g s outline.loaded cs choices chart lists outline.is_chart outline.entries a root root_there p occ to
    step_of p occ to r n = step_there g s outline.loaded cs choices chart lists outline.is_chart outline.entries a root root_there p occ to r n

    word_of : (e : Edge) (k : ℕ) → picked.IsWordOf g s sel e k → WordThere g s outline.loaded cs choices chart lists outline.is_chart outline.entries a root root_there e k
    word_of e k w = word_there g s outline.loaded cs choices chart lists outline.is_chart outline.entries a root root_there e k w

    flows : (m : Mark) → Reached g s sel m → FlowsTo (thing_of m)
    flows m (the_root some h) = record { place = root; at = edge_place chart keys facts root (edge g.root 0 (length s)) root_there; flows = at_root }
    flows m (starts {e = e} {rule = rule} r is) =
        let i = placed (OfPoint (point e 0 e.from)) (starts r is) in
        record { place = i.0; at = i.1; flows = by_start e r (flows (OfEdge e) r) i.0 i.1 }
    flows m (goes {e = e} {q = q} {at = at} {p = p} {mid = mid} r n) =
        let i = placed (OfPoint (point e p mid)) (goes r n) in
        record { place = i.0; at = i.1; flows = by_step (point e q at) p mid (step_of (point e q at) p mid r n) (flows (OfPoint (point e q at)) r) (ThePoint (point e p mid)) here i.0 i.1 }
    flows m (enters {e = e} {q = q} {at = at} {p = p} {mid = mid} {rule = rule} {cat = cat} r n is item) =
        let i = placed (OfEdge (edge cat at mid)) (enters r n is item) in
        let there : In (TheEdge (edge cat at mid)) (over_things g s e p at mid) =
        (let P : Option Name → Type 0 = λ o. In (TheEdge (edge cat at mid)) (daughter_things e at mid o) in later (later (subst P (sym (item_category g e rule p cat is item)) here))) in
        record { place = i.0; at = i.1; flows = by_step (point e q at) p mid (step_of (point e q at) p mid r n) (flows (OfPoint (point e q at)) r) (TheEdge (edge cat at mid)) there i.0 i.1 }

    -- ---- items, entries and facts

    site_flows : (at : Site) → SiteReached g s sel at → (i : ℕ) → slice_get things i ≡ Some (TheSite (site_key g s at)) → Flow i
    site_flows (site.Item e occ at to) h i there =
        let p = point e h.behind at in
        by_step p occ to (step_of p occ to h.reached h.goes_over) (flows (OfPoint p) h.reached) (TheSite (site_key g s (site.Item e occ at to))) (later here) i there
    site_flows (site.Entry e k) h i there = by_word e k (word_of e k h) (flows (OfEdge e) h.reached) (TheSite (site_key g s (site.Entry e k))) here i there

    fact_flows : (f : Fact) (x : Spot) → IsReached g s sel x → In f (spot_facts g s x) → (i : ℕ) → slice_get things i ≡ Some (TheFact f) → Flow i
    fact_flows f (AnEdge e) h j i there = In-nil j
    fact_flows f (AStep p (next.Item occ to)) h j i there =
        by_step p occ to (step_of p occ to h.0 (sym h.1)) (flows (OfPoint p) h.0) (TheFact f)
        (later (later (under_thing p.edge p.at to (category_at g p.edge occ) f j))) i there
    fact_flows f (AStep p next.End) h j i there = In-nil j
    fact_flows f (AWord e k) h j i there = by_word e k (word_of e k h) (flows (OfEdge e) h.reached) (TheFact f) (later (In-map TheFact j)) i there
    fact_flows f (APick at ps) h j i there = In-nil j

    -- what holds, flows to its place
    complete : (t : Thing) → Is t → (i : ℕ) → slice_get things i ≡ Some t → Flow i
    complete (TheEdge e) h i there = flows_at (TheEdge e) i there (flows (OfEdge e) h)
    complete (ThePoint p) h i there = flows_at (ThePoint p) i there (flows (OfPoint p) h)
    complete (TheSite k) h i there =
        let w = (outline.all_keys.exact k).0 (thing_at chart keys facts (TheSite k) i there) in
        let P : Site → Type 0 = λ at. SiteReached g s sel at in
        let Q : ChoiceKey → Type 0 = λ l. slice_get things i ≡ Some (TheSite l) in
        site_flows w.0 (subst P (ap site_of_key w.2 ∙ site_back g s w.0) h) i (subst Q w.2 there)
    complete (TheFact f) h i there = fact_flows f h.0 h.1 h.2 i there

  -- the table
  module _ (table : List Set) (flow : IsFlow passages picks root table) where
    exact : (i : ℕ) (t : Thing) (set : Set) → slice_get things i ≡ Some t → slice_get table i ≡ Some set → (a : Assignment)
        → (member set a ≡ true) ↔ Holds g s outline.loaded cs choices chart lists outline.is_chart outline.entries a t
    exact i t set there get a = (
      (λ h. holds_at a t i there (sound a ((flow.exact i set get a).0 h))),
      (λ h. (flow.exact i set get a).1 (complete a t h i there)),
    )

    pub is_reached_table : length table ≡ length chart.edges + length (points_of chart.forks) + length keys + length facts → IsReachedTable g s cs chart lists keys facts table
    is_reached_table len = record {
      len = len;
      edges = record { each = λ i e set there get a. exact i (TheEdge e) set (edge_place chart keys facts i e there) (zero_on table i set get) a };
      points = record { each = λ i p set there get a. exact (length chart.edges + i) (ThePoint p) set (point_place chart keys facts i _ p refl there) get a };
      sites = record { each = λ i k set there get a. exact (length chart.edges + length (points_of chart.forks) + i) (TheSite k) set (site_place chart keys facts i _ k refl there) get a };
      facts_reached = record { each = λ i f set there get a. exact (length chart.edges + length (points_of chart.forks) + length keys + i) (TheFact f) set (fact_place chart keys facts i _ f refl there) get a };
    }
