-- The facts of steps and words are those of the trees of whole derivations.
use Rattle.std.proofs.Common.{◌≡◌, ◌↔◌, ◌⊎◌, inl, inr, ℕ, Some, List, length, slice_get, sym, subst, refl, arith, ◌<◌}
use Rattle.std.proofs.lemmas.Option.{slice_get_within}
use Rattle.lfg_terms.specs.declared.node.Edge.{Edge}
use Rattle.lfg_terms.specs.declared.node.Fact.{Fact}
use Rattle.lfg_terms.specs.declared.grammar.Grammar.{Grammar}
use Rattle.lfg_terms.specs.declared.tree.TokenForms.{TokenForms}
use Rattle.lfg_chart.specs.Chart.{ChartForm}
use Rattle.lfg_model.specs.declared.point.Point.{Point}
use Rattle.lfg_model.specs.declared.point.Next.TheVariants as next
use Rattle.lfg_model.specs.Charts.{Fork, IsChart}
use Rattle.lfg_model.specs.Lists.{In}
use Rattle.lfg_model.specs.Loaded.{Loaded}
use Rattle.lfg_model.specs.Spots.{AnEdge, AStep, AWord, APick, Stands}
use Rattle.lfg_model.proofs.ListLaws.{In-nil, In_from_map}
use Rattle.lfg_packed.specs.Counts.{IsTreeFact}
use Rattle.lfg_packed.specs.SpotFacts.{category_at, under_facts, spot_facts}
use Rattle.lfg_packed.proofs.Listing.{In_get, get_In, get_below}
use Rattle.lfg_packed.proofs.Selecting.{word_edge}
use Rattle.lfg_instant.specs.declared.steps.Step.{Step}
use Rattle.lfg_instant.specs.declared.steps.Word.{Word}
use Rattle.lfg_instant.specs.Facts.{IsUnderOf, IsWordFactOf}
use Rattle.lfg_instant.specs.Sites.{AreEntryLists}
use Rattle.lfg_instant.specs.Steps.{AreSteps, AreWordsOf}

module _ (g : Grammar) (s : List TokenForms) (loaded : Loaded g) (chart : ChartForm) (is_chart : IsChart g s chart.edges chart.forks) (lists : List (List ℕ)) (are : AreEntryLists g s chart.edges lists)
    (steps : List Step) (are_steps : AreSteps chart.forks steps) (words : List Word) (are_words : AreWordsOf chart.edges lists words) where
  -- a step stands, and what stands is a step
  pub step_stands : (st : Step) → In st steps → Stands g s (AStep st.point (next.Item st.occ st.to))
  step_stands st i =
      let h = (are_steps.exact st).0 i in
      let l = is_chart.all_nexts (st.point, h.ways) (get_In chart.forks st.place (st.point, h.ways) h.listed) in
      (l.exact (next.Item st.occ st.to)).0 (get_In h.ways st.number (next.Item st.occ st.to) h.taken)

  pub standing_step : (p : Point) (occ to : ℕ) → Stands g s (AStep p (next.Item occ to)) → (st : Step) × In st steps × (st.point ≡ p) × (st.occ ≡ occ) × (st.to ≡ to)
  standing_step p occ to stands =
      let there = In_from_map (λ (f : Fork). f.0) chart.forks ((is_chart.all_points.exact p).1 (next.Item occ to, stands)) in
      let fork = there.0 in
      let at = In_get there.1 in
      let P : Point → Type 0 = λ q. Stands g s (AStep q (next.Item occ to)) in
      let l = is_chart.all_nexts fork there.1 in
      let number = In_get ((l.exact (next.Item occ to)).1 (subst P (sym there.2) stands)) in
      let st : Step = record { place = at.0; point = fork.0; number = number.0; of = length fork.1; occ = occ; to = to } in
      (st, (are_steps.exact st).1 (record { ways = fork.1; listed = at.1; taken = number.1; many = refl }), there.2, refl, refl)

  pub word_stands : (w : Word) → In w words → Stands g s (AWord w.edge w.entry)
  word_stands w i =
      let h = (are_words.exact w).0 i in
      ((are.each w.place w.edge h.entries h.listed h.beside).exact w.entry).0 (get_In h.entries w.number w.entry h.taken)

  pub standing_word : (e : Edge) (k : ℕ) → Stands g s (AWord e k) → (w : Word) × In w words × (w.edge ≡ e) × (w.entry ≡ k)
  standing_word e k stands =
      let at = In_get ((is_chart.all_edges.exact e).1 (word_edge g s loaded e k stands)) in
      let beside = get_below lists at.0 (within at.0 e at.1) in
      let number = In_get (((are.each at.0 e beside.0 at.1 beside.1).exact k).1 stands) in
      let w : Word = record { place = at.0; edge = e; number = number.0; of = length beside.0; entry = k } in
      (w, (are_words.exact w).1 (record { entries = beside.0; listed = at.1; beside = beside.1; taken = number.1; many = refl }), refl, refl)
    where
      within : (i : ℕ) (e : Edge) → slice_get chart.edges i ≡ Some e → i < length lists
      within i e h = let l = slice_get_within chart.edges i e h in omega (arith, l, are.beside)

  pub is_tree_fact : (f : Fact) → (IsUnderOf g steps f ⊎ IsWordFactOf s words f) ↔ IsTreeFact g s f
  is_tree_fact f = (there, back)
    where
      there : IsUnderOf g steps f ⊎ IsWordFactOf s words f → IsTreeFact g s f
      there (inl u) = (AStep u.0.point (next.Item u.0.occ u.0.to), step_stands u.0 u.1, u.2)
      there (inr w) = (AWord w.0.edge w.0.entry, word_stands w.0 w.1, w.2)

      back : IsTreeFact g s f → IsUnderOf g steps f ⊎ IsWordFactOf s words f
      back (AnEdge e, st, i) = In-nil i
      back (AStep p next.End, st, i) = In-nil i
      back (AStep p (next.Item occ to), st, i) =
          let r = standing_step p occ to st in
          let moved : under_facts p.edge p.at to (category_at g p.edge occ) ≡ under_facts r.0.point.edge r.0.point.at r.0.to (category_at g r.0.point.edge r.0.occ) =
          (λ j. under_facts (sym r.2 j).edge (sym r.2 j).at (sym r.4 j) (category_at g (sym r.2 j).edge (sym r.3 j))) in
          let P : List Fact → Type 0 = λ fs. In f fs in
          inl (r.0, r.1, subst P moved i)
      back (AWord e k, st, i) =
          let r = standing_word e k st in
          let P : Edge → Type 0 = λ z. In f (spot_facts g s (AWord z k)) in
          inr (r.0, r.1, subst P (sym r.2) i)
      back (APick at picks, st, i) = In-nil i
