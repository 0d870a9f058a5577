-- What an assignment takes is a selection of what whole derivations take; so it picks one derivation.
use Rattle.std.proofs.Common.{◌≡◌, ◌↔◌, ℕ, zero, suc, ◌+◌, ◌-◌, ◌<◌, ◌≤◌, min, Bool, true, false, cond, Option, Some, None, List, [], ◌∷◌, map, length, slice_get, refl, sym, ap, subst, ◌∙◌, arith, inl, inr, ◌⊎◌}
use Rattle.std.specs.Option.{unwrap_or}
use Rattle.std.specs.Ordering.{eq_by_cmp, on, then_cmp, nat_cmp}
use Rattle.std.specs.Cmp.{IsTotalOrder}
use Rattle.std.specs.List.Sorted.{IsStrictlySortedBy}
use Rattle.std.proofs.lemmas.Bool.{false≢true}
use Rattle.std.proofs.lemmas.Cmp.{eq_by_cmp_equiv, on_total, then_total, nat_cmp_total}
use Rattle.std.proofs.lemmas.Option.{same_Some}
use Rattle.lfg_terms.specs.Order.{edge_cmp}
use Rattle.lfg_terms.specs.OrderLaws.{edge_cmp_total}
use Rattle.lfg_terms.proofs.Ties.{edge_ties}
use Rattle.lfg_terms.specs.declared.node.Edge.{Edge}
use Rattle.lfg_terms.specs.declared.literal.Site.{Site}
use Rattle.lfg_terms.specs.declared.literal.Site.TheVariants as site
use Rattle.lfg_terms.specs.declared.grammar.Grammar.{Grammar}
use Rattle.lfg_terms.specs.declared.tree.TokenForms.{TokenForms}
use Rattle.lfg_context.specs.Cubes.{taken}
use Rattle.lfg_context.specs.Sets.{Assignment}
use Rattle.lfg_model.specs.declared.point.Point.{Point}
use Rattle.lfg_model.specs.declared.point.Next.{Next}
use Rattle.lfg_model.specs.declared.point.Next.TheVariants as next
use Rattle.lfg_model.specs.Charts.{Fork, nexts_at, IsChart}
use Rattle.lfg_model.specs.Derive.{Whole}
use Rattle.lfg_model.specs.Kept.{KeptSpot, an_edge, a_word, a_step, an_end, item_pick, entry_pick, IsFillable}
use Rattle.lfg_model.specs.Lists.{In, here, later, Lists}
use Rattle.lfg_model.specs.Loaded.{Loaded}
use Rattle.lfg_model.specs.Picked.{Selection, IsSelection, IsTaken, IsPicked}
use Rattle.lfg_model.specs.Places.{places, PicksFit}
use Rattle.lfg_model.specs.Points.{next_cmp, next_cmp_total}
use Rattle.lfg_model.specs.Spots.{Spot, AnEdge, AStep, AWord, APick, spots_of, Stands}
use Rattle.lfg_model.specs.Terms.{Tree, annotation_of}
use Rattle.lfg_model.specs.Trees.{items_of, item_annotation, entry_annotation}
use Rattle.lfg_model.specs.Derive.{rule_of, item_at}
use Rattle.lfg_model.proofs.Ascending.{one_list, once_from_total, tied}
use Rattle.lfg_model.proofs.ChartLaws.{chart_has_all_nexts, kept_edge_stands, kept_edge_of}
use Rattle.lfg_model.proofs.ListLaws.{In-nil, In-cons_cases, In_from_map}
use Rattle.lfg_model.proofs.OnePick.{one_is_picked}
use Rattle.lfg_model.proofs.SomePick.{some_is_picked}
use Rattle.lfg_model.proofs.Standing.{kept_is_standing}
use Rattle.lfg_packed.specs.Words.{word_place, entry_cmp, AreEntries}
use Rattle.lfg_packed.specs.ChoicePoints.{ChoicePoint, NextAt, EntryAt, BranchAt, choice_cmp}
use Rattle.lfg_packed.specs.Choices.{annotation_at, IsSite, AreNexts, HasAlternatives, PlacedChoice, AreChoices}
use Rattle.lfg_packed.specs.Assignments.{taken_from, alternative_at, picks_from, picks_at, IsAlternative, IsPickedBy}
use Rattle.lfg_packed.specs.Layouts.{entries_at, AreWords, OneIsPickedBy, SomeIsPickedBy}
use Rattle.lfg_packed.proofs.KeyTies.{choice_ties}
use Rattle.lfg_packed.proofs.Listing.{In_get, get_In, get_below, some_length}
use Rattle.lfg_packed.proofs.LoadedGives.{fillable, apart}

-- ---- the order of entries

pub entry_cmp_total : (g : Grammar) (s : List TokenForms) (e : Edge) → IsTotalOrder (entry_cmp g s e)
entry_cmp_total g s e = then_total (on_total (word_place g s e) nat_cmp_total) nat_cmp_total

pub one_entries : (g : Grammar) (s : List TokenForms) (e : Edge) (ks ls : List ℕ) → AreEntries g s e ks → AreEntries g s e ls → ks ≡ ls
one_entries g s e ks ls a b = one_list (entry_cmp g s e) (once_from_total (entry_cmp_total g s e)) (λ k. Stands g s (AWord e k)) ks ls a b

pub one_nexts : (g : Grammar) (s : List TokenForms) (p : Point) (ns ms : List Next) → AreNexts g s p ns → AreNexts g s p ms → ns ≡ ms
one_nexts g s p ns ms a b = one_list next_cmp (once_from_total next_cmp_total) (λ n. Stands g s (AStep p n)) ns ms a b

-- there is one number of alternatives
pub one_number : (g : Grammar) (s : List TokenForms) (x : ChoicePoint) (m n : ℕ) → HasAlternatives g s x m → HasAlternatives g s x n → m ≡ n
one_number g s (NextAt p) m n h k = h.2 ∙ ap (λ (z : List Next). length z) (one_nexts g s p h.0 k.0 h.1 k.1) ∙ sym k.2
one_number g s (EntryAt e) m n h k = h.2 ∙ ap (λ (z : List ℕ). length z) (one_entries g s e h.0 k.0 h.1 k.1) ∙ sym k.2
one_number g s (BranchAt at place) m n h k = same_Some m n (sym h.1 ∙ k.1)

-- ---- what an assignment takes at a place

-- it is the alternative of a choice that stands there, or the first one
pub record Takes (a : Assignment) (cs : List PlacedChoice) (x : ChoicePoint) (k : ℕ) : Type 0 where
  pub choice : PlacedChoice
  pub listed : In choice cs
  pub at : choice.at ≡ x
  pub number : ℕ
  pub is : k ≡ taken a number choice.alternatives

pub taken_cases : (g : Grammar) (s : List TokenForms) (a : Assignment) (k : ℕ) (cs : List PlacedChoice) (x : ChoicePoint)
    → Takes a cs x (taken_from g s a k cs x) ⊎ (taken_from g s a k cs x ≡ 0)
taken_cases g s a k [] x = inr refl
taken_cases g s a k (c ∷ cs) x = go (eq_by_cmp (choice_cmp g s) c.at x) refl (taken_cases g s a (k + 1) cs x)
  where
    is_one : (b : Bool) → eq_by_cmp (choice_cmp g s) c.at x ≡ b → taken_from g s a k (c ∷ cs) x ≡ cond b (taken a k c.alternatives) (taken_from g s a (k + 1) cs x)
    is_one b e = ap (λ z. cond z (taken a k c.alternatives) (taken_from g s a (k + 1) cs x)) e

    go : (b : Bool) → eq_by_cmp (choice_cmp g s) c.at x ≡ b → Takes a cs x (taken_from g s a (k + 1) cs x) ⊎ (taken_from g s a (k + 1) cs x ≡ 0)
        → Takes a (c ∷ cs) x (taken_from g s a k (c ∷ cs) x) ⊎ (taken_from g s a k (c ∷ cs) x ≡ 0)
    go true e rest = inl (record { choice = c; listed = here; at = tied (choice_cmp g s) (choice_ties g s) c.at x e; number = k; is = is_one true e })
    go false e (inl t) = inl (record { choice = t.choice; listed = later t.listed; at = t.at; number = t.number; is = is_one false e ∙ t.is })
    go false e (inr z) = inr (is_one false e ∙ z)

-- so it is one of the alternatives
pub within : (g : Grammar) (s : List TokenForms) (cs : List PlacedChoice) (a : Assignment) (x : ChoicePoint) (n : ℕ) → AreChoices g s cs
    → HasAlternatives g s x n → 0 < n → alternative_at g s cs a x < n
within g s cs a x n choices has some = elim (taken_cases g s a 0 cs x) [
  | inl t ↦
      (let c = (choices.exact t.choice).0 t.listed in
      let P : ChoicePoint → Type 0 = λ z. HasAlternatives g s z t.choice.alternatives in
      let same : t.choice.alternatives ≡ n = one_number g s x t.choice.alternatives n (subst P t.at c.0) has in
      let two = c.1 in
      let e = t.is in
      omega (arith, same, two, e, min_le (a t.number) (t.choice.alternatives - 1)))
  | inr z ↦ (rw z some)
]
  where
    min_le : (m n : ℕ) → min m n ≤ n
    min_le m n = omega arith

-- ---- the selection of an assignment

abbrev pub nth : {X : Type 0} → List X → ℕ → X → X
nth xs k x = unwrap_or (slice_get xs k) x

nth_get : {X : Type 0} (xs : List X) (k : ℕ) (d x : X) → slice_get xs k ≡ Some x → nth xs k d ≡ x
nth_get xs k d x e = ap (λ o. unwrap_or o d) e

get_nth : {X : Type 0} (xs : List X) (k : ℕ) (d : X) → k < length xs → slice_get xs k ≡ Some (nth xs k d)
get_nth xs k d h = let r = get_below xs k h in r.1 ∙ ap Some (sym (nth_get xs k d r.0 r.1))

abbrev pub selection : Grammar → List TokenForms → List PlacedChoice → List Fork → List (Edge × List ℕ) → Assignment → Selection
selection g s cs forks words a = record {
  next_of = λ p. nth (nexts_at forks p) (alternative_at g s cs a (NextAt p)) next.End;
  entry_of = λ e. nth (entries_at words e) (alternative_at g s cs a (EntryAt e)) 0;
  picks_of = λ at. picks_at g s cs a at;
}

-- the entries that are written down at an edge
pub entries_found : (words : List (Edge × List ℕ)) (e : Edge) → ((w : Edge × List ℕ) × In w words × (w.0 ≡ e) × (entries_at words e ≡ w.1)) ⊎ ((In e (map (λ w. w.0) words) → ⊥) × (entries_at words e ≡ []))
entries_found [] e = inr ((λ i. In-nil i), refl)
entries_found (w ∷ words) e = go (eq_by_cmp edge_cmp w.0 e) refl (entries_found words e)
  where
    is_one : (b : Bool) → eq_by_cmp edge_cmp w.0 e ≡ b → entries_at (w ∷ words) e ≡ cond b w.1 (entries_at words e)
    is_one b h = ap (λ z. cond z w.1 (entries_at words e)) h

    go : (b : Bool) → eq_by_cmp edge_cmp w.0 e ≡ b → ((v : Edge × List ℕ) × In v words × (v.0 ≡ e) × (entries_at words e ≡ v.1)) ⊎ ((In e (map (λ v. v.0) words) → ⊥) × (entries_at words e ≡ []))
        → ((v : Edge × List ℕ) × In v (w ∷ words) × (v.0 ≡ e) × (entries_at (w ∷ words) e ≡ v.1)) ⊎ ((In e (map (λ v. v.0) (w ∷ words)) → ⊥) × (entries_at (w ∷ words) e ≡ []))
    go true h rest = inl (w, here, tied edge_cmp edge_ties w.0 e h, is_one true h)
    go false h (inl r) = inl (r.0, later r.1, r.2, is_one false h ∙ r.3)
    go false h (inr r) = inr (
      (λ i. elim (In-cons_cases i) [
        | inl same ↦ (let t : eq_by_cmp edge_cmp w.0 e ≡ true = subst (λ (z : Edge). eq_by_cmp edge_cmp w.0 z ≡ true) (sym same) ((eq_by_cmp_equiv edge_cmp_total).refl w.0) in absurd (false≢true (sym h ∙ t)))
        | inr j ↦ r.0 j
      ]),
      is_one false h ∙ r.1,
    )

module _ (g : Grammar) (s : List TokenForms) (loaded : Loaded g) where
  -- a word stands at an edge that stands
  pub word_edge : (e : Edge) (k : ℕ) → Stands g s (AWord e k) → Stands g s (AnEdge e)
  word_edge e k st =
      let fill = fillable g loaded in
      (kept_edge_stands g s fill e).0 (kept_edge_of g s (AWord e k) ((kept_is_standing g s fill (AWord e k)).1 st))

  pub all_entries : (edges : List Edge) (forks : List Fork) (words : List (Edge × List ℕ)) → IsChart g s edges forks → AreWords g s edges words → (e : Edge) → AreEntries g s e (entries_at words e)
  unfolding IsStrictlySortedBy
  all_entries edges forks words chart are e = elim (entries_found words e) [
    | inl r ↦ (let P : Edge → List ℕ → Type 0 = λ z ks. AreEntries g s z ks in
        subst (λ (ks : List ℕ). P e ks) (sym r.3) (subst (λ (z : Edge). P z r.0.1) r.2 (are.each r.0 r.1)))
    | inr r ↦ (let P : List ℕ → Type 0 = λ ks. AreEntries g s e ks in
        let there : (k : ℕ) → Stands g s (AWord e k) → In e (map (λ w. w.0) words) = λ k st. (let Q : List Edge → Type 0 = λ es. In e es in subst Q (sym are.beside) ((chart.all_edges.exact e).1 (word_edge e k st))) in
        subst P (sym r.1) (record { ascends = tt; exact = λ k. ((λ i. In-nil i), λ st. absurd (r.0 (there k st))) }))
  ]

  -- picks that are within the numbers of alternatives fit
  picks_within : (f : ℕ → ℕ) (k : ℕ) (ns : List ℕ) → ((j n : ℕ) → slice_get ns j ≡ Some n → f (k + j) < n) → PicksFit (picks_from f k ns) ns
  picks_within f k [] h = tt
  picks_within f k (n ∷ ns) h =
      let first : f (k + 0) < n = h 0 n refl in
      (omega_first first, picks_within f (k + 1) ns (λ j m e. (let P : ℕ → Type 0 = λ z. f z < m in subst P (shift k j) (h (suc j) m e))))
    where
      shift : (k j : ℕ) → k + suc j ≡ (k + 1) + j
      shift k j = omega arith

      omega_first : f (k + 0) < n → f k < n
      omega_first w = let P : ℕ → Type 0 = λ z. f z < n in subst P (zero_more k) w
        where
          zero_more : (k : ℕ) → k + 0 ≡ k
          zero_more k = omega arith

  from_zero : (j : ℕ) → j ≡ 0 + j
  from_zero j = omega arith

  -- each place of a sound annotation has an alternative
  fits_some : (picks ns : List ℕ) → PicksFit picks ns → (j n : ℕ) → slice_get ns j ≡ Some n → 0 < n
  fits_some [] [] fit j n e = cc
  fits_some [] (m ∷ ns) fit j n e = absurd fit
  fits_some (k ∷ picks) [] fit j n e = absurd fit
  fits_some (k ∷ picks) (m ∷ ns) fit zero n e = let same : m ≡ n = same_Some m n e in let w = fit.0 in omega (arith, same, w)
  fits_some (k ∷ picks) (m ∷ ns) fit (suc j) n e = fits_some picks ns fit.1 j n e

  -- the annotation of a kept item or entry is that of its site, and other picks that fit it stand too
  abbrev pub PicksStand : Spot → Type 0
  PicksStand (AnEdge e) = Unit {0}
  PicksStand (AStep p n) = Unit {0}
  PicksStand (AWord e k) = Unit {0}
  PicksStand (APick at picks) =
      PicksFit picks (places (annotation_at g at)) × ((other : List ℕ) → PicksFit other (places (annotation_at g at)) → Stands g s (APick at other))

  kept_picks : (x : Spot) → KeptSpot g s x → PicksStand x
  kept_picks x (an_edge k) = tt
  kept_picks x (a_word k w) = tt
  kept_picks x (a_step rule p k is reach follow crosses ends) = tt
  kept_picks x (an_end rule k is reach end) = tt
  kept_picks x (item_pick {e} {q} {at} {mid} {picks} rule p item k is reach follow crosses ends listed fits) =
      let same : annotation_of item.schemata ≡ annotation_at g (site.Item e p at mid) = sym (ap (λ r. item_annotation (item_at (items_of r) p)) is ∙ ap item_annotation listed) in (
        subst (λ z. PicksFit picks (places z)) same fits,
        λ other fit. (kept_is_standing g s (fillable g loaded) (APick (site.Item e p at mid) other)).0
            (item_pick rule p item k is reach follow crosses ends listed (subst (λ z. PicksFit other (places z)) (sym same) fit)),
      )
  kept_picks x (entry_pick {e} {k = n} {picks} lex k w listed fits) =
      let same : annotation_of lex.schemata ≡ annotation_at g (site.Entry e n) = sym (ap entry_annotation listed) in (
        subst (λ z. PicksFit picks (places z)) same fits,
        λ other fit. (kept_is_standing g s (fillable g loaded) (APick (site.Entry e n) other)).0
            (entry_pick lex k w listed (subst (λ z. PicksFit other (places z)) (sym same) fit)),
      )

  pub picks_stand : (at : Site) (picks : List ℕ) → Stands g s (APick at picks) → PicksStand (APick at picks)
  picks_stand at picks st = kept_picks (APick at picks) ((kept_is_standing g s (fillable g loaded) (APick at picks)).1 st)

  module _ (cs : List PlacedChoice) (a : Assignment) (choices : AreChoices g s cs) (edges : List Edge) (forks : List Fork) (chart : IsChart g s edges forks)
      (words : List (Edge × List ℕ)) (are : AreWords g s edges words) where
    abbrev pub sel : Selection
    sel = selection g s cs forks words a

    -- what is selected at a point where whole derivations go on
    pub next_there : (p : Point) (n : Next) → Stands g s (AStep p n) → slice_get (nexts_at forks p) (alternative_at g s cs a (NextAt p)) ≡ Some (sel.next_of p)
    next_there p n st =
        let l = chart_has_all_nexts g s edges forks chart p in
        let some = some_length (nexts_at forks p) ((l.exact n).1 st) in
        get_nth (nexts_at forks p) (alternative_at g s cs a (NextAt p)) next.End
        (within g s cs a (NextAt p) (length (nexts_at forks p)) choices (nexts_at forks p, l, refl) some)

    pub entry_there : (e : Edge) (k : ℕ) → Stands g s (AWord e k) → slice_get (entries_at words e) (alternative_at g s cs a (EntryAt e)) ≡ Some (sel.entry_of e)
    entry_there e k st =
        let l = all_entries edges forks words chart are e in
        let some = some_length (entries_at words e) ((l.exact k).1 st) in
        get_nth (entries_at words e) (alternative_at g s cs a (EntryAt e)) 0
        (within g s cs a (EntryAt e) (length (entries_at words e)) choices (entries_at words e, l, refl) some)

    pub picks_there : (at : Site) (picks : List ℕ) → Stands g s (APick at picks) → Stands g s (APick at (picks_at g s cs a at))
    picks_there at picks st =
        let p = picks_stand at picks st in
        p.1 (picks_at g s cs a at) (picks_within (λ k. alternative_at g s cs a (BranchAt at k)) 0 (places (annotation_at g at))
        (λ j n e. (let P : ℕ → Type 0 = λ z. alternative_at g s cs a (BranchAt at z) < n in
        subst P (from_zero j) (within g s cs a (BranchAt at j) n choices ((picks, st), e) (fits_some picks (places (annotation_at g at)) p.0 j n e)))))

    pub is_selection : IsSelection g s sel
    is_selection = record {
      next = λ p n st. ((chart_has_all_nexts g s edges forks chart p).exact (sel.next_of p)).0 (get_In (nexts_at forks p) (alternative_at g s cs a (NextAt p)) (sel.next_of p) (next_there p n st));
      entry = λ e k st. ((all_entries edges forks words chart are e).exact (sel.entry_of e)).0 (get_In (entries_at words e) (alternative_at g s cs a (EntryAt e)) (sel.entry_of e) (entry_there e k st));
      picks = λ at picks st. picks_there at picks st;
    }

    -- what a derivation takes by the assignment it takes by the selection, and back
    pub taken_selected : (x : Spot) → IsAlternative g s cs a x → IsTaken sel x
    taken_selected (AnEdge e) h = tt
    taken_selected (AStep p n) h =
        let same : h.0 ≡ nexts_at forks p = one_nexts g s p h.0 (nexts_at forks p) h.1 (chart_has_all_nexts g s edges forks chart p) in
        sym (nth_get (nexts_at forks p) (alternative_at g s cs a (NextAt p)) next.End n (subst (λ (z : List Next). slice_get z (alternative_at g s cs a (NextAt p)) ≡ Some n) same h.2))
    taken_selected (AWord e k) h =
        let same : h.0 ≡ entries_at words e = one_entries g s e h.0 (entries_at words e) h.1 (all_entries edges forks words chart are e) in
        sym (nth_get (entries_at words e) (alternative_at g s cs a (EntryAt e)) 0 k (subst (λ (z : List ℕ). slice_get z (alternative_at g s cs a (EntryAt e)) ≡ Some k) same h.2))
    taken_selected (APick at picks) h = h

    pub selected_taken : (x : Spot) → Stands g s x → IsTaken sel x → IsAlternative g s cs a x
    selected_taken (AnEdge e) st h = tt
    selected_taken (AStep p n) st h =
        let P : Next → Type 0 = λ z. slice_get (nexts_at forks p) (alternative_at g s cs a (NextAt p)) ≡ Some z in
        (nexts_at forks p, chart_has_all_nexts g s edges forks chart p, subst P (sym h) (next_there p n st))
    selected_taken (AWord e k) st h =
        let P : ℕ → Type 0 = λ z. slice_get (entries_at words e) (alternative_at g s cs a (EntryAt e)) ≡ Some z in
        (entries_at words e, all_entries edges forks words chart are e, subst P (sym h) (entry_there e k st))
    selected_taken (APick at picks) st h = h

    pub picked_selected : (d : Tree) → IsPickedBy g s cs a d → IsPicked g s sel d
    picked_selected d h = record { whole = h.whole; takes = λ x i. taken_selected x (h.takes x i) }

    pub selected_picked : (d : Tree) → IsPicked g s sel d → IsPickedBy g s cs a d
    selected_picked d h = record { whole = h.whole; takes = λ x i. selected_taken x (record { derivation = d; whole = h.whole; has = i }) (h.takes x i) }

pub one_is_picked_by : OneIsPickedBy
one_is_picked_by g s cs a loaded choices edges forks chart words are d d' h h' =
    one_is_picked g s (sel g s loaded cs a choices edges forks chart words are) d d' (apart g loaded)
    (picked_selected g s loaded cs a choices edges forks chart words are d h) (picked_selected g s loaded cs a choices edges forks chart words are d' h')

pub some_is_picked_by : SomeIsPickedBy
some_is_picked_by g s cs a loaded choices edges forks chart words are d whole =
    let r = some_is_picked g s (sel g s loaded cs a choices edges forks chart words are) loaded.grounded (fillable g loaded)
    (is_selection g s loaded cs a choices edges forks chart words are) d whole in
    (r.0, selected_picked g s loaded cs a choices edges forks chart words are r.0 r.1)
