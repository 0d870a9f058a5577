-- The steps and the words of a chart, one place after the other.
use Rattle.std.proofs.Common.{◌≡◌, ◌↔◌, ℕ, ◌<◌, ◌≤◌, Some, List, length, slice_get, refl, sym, ap, subst, ◌∙◌, arith}
use Rattle.std.proofs.lemmas.Option.{same_Some, slice_get_within}
use Rattle.lfg_terms.specs.declared.node.Edge.{Edge}
use Rattle.lfg_model.specs.declared.point.Point.{Point}
use Rattle.lfg_model.specs.declared.point.Next.{Next}
use Rattle.lfg_model.specs.declared.point.Next.TheVariants as next
use Rattle.lfg_model.specs.Charts.{Fork}
use Rattle.lfg_instant.specs.declared.steps.Step.{Step}
use Rattle.lfg_instant.specs.declared.steps.Word.{Word}
use Rattle.lfg_instant.specs.Steps.{IsStepAt, IsStepOf, IsWordAt, IsWordOf}

-- the item of a way to go on, and its end
abbrev item_of : Next → ℕ
item_of (next.Item occ to) = occ
item_of next.End = 0

abbrev end_of : Next → ℕ
end_of (next.Item occ to) = to
end_of next.End = 0

-- two lists of ways to go on at a place are one
one_at : {X : Type 0} (xs : List X) (k : ℕ) (x y : X) → slice_get xs k ≡ Some x → slice_get xs k ≡ Some y → x ≡ y
one_at xs k x y a b = same_Some x y (sym a ∙ b)

module _ (place : ℕ) (point : Point) (ways : List Next) where
  -- the step with this number
  abbrev pub StepBy : ℕ → Step → Type 0
  StepBy m st = IsStepAt place point ways st × (st.number ≡ m)

  pub one_step : (m occ to : ℕ) → slice_get ways m ≡ Some (next.Item occ to) → (st : Step)
      → StepBy m st ↔ (st ≡ record { place = place; point = point; number = m; of = length ways; occ = occ; to = to })
  one_step m occ to there st = (
    (λ h.
        let at : slice_get ways m ≡ Some (next.Item st.occ st.to) = subst (λ (n : ℕ). slice_get ways n ≡ Some (next.Item st.occ st.to)) h.1 h.0.taken in
        let same : next.Item st.occ st.to ≡ next.Item occ to = one_at ways m (next.Item st.occ st.to) (next.Item occ to) at there in
        let occs : st.occ ≡ occ = ap item_of same in
        let ends : st.to ≡ to = ap end_of same in
        λ i. record { place = h.0.there i; point = h.0.at i; number = h.1 i; of = h.0.many i; occ = occs i; to = ends i }),
    (λ e. (
      record {
        there = ap (λ (s : Step). s.place) e;
        at = ap (λ (s : Step). s.point) e;
        taken = rw e there;
        many = ap (λ (s : Step). s.of) e;
      },
      ap (λ (s : Step). s.number) e,
    )),
  )

  -- only items have steps
  pub no_step : (m : ℕ) (way : Next) → slice_get ways m ≡ Some way → ((occ to : ℕ) → way ≡ next.Item occ to → ⊥) → (st : Step) → StepBy m st → ⊥
  no_step m way there not st h =
      let at : slice_get ways m ≡ Some (next.Item st.occ st.to) = subst (λ (n : ℕ). slice_get ways n ≡ Some (next.Item st.occ st.to)) h.1 h.0.taken in
      not st.occ st.to (one_at ways m way (next.Item st.occ st.to) there at)

  pub steps_by : (n : ℕ) → length ways ≤ n → (st : Step) → ((m : ℕ) × (m < n) × StepBy m st) ↔ IsStepAt place point ways st
  steps_by n l st = (
    (λ h. h.2.0),
    (λ h. (st.number, (let w = slice_get_within ways st.number (next.Item st.occ st.to) h.taken in omega (arith, w, l)), (h, refl))),
  )

module _ (forks : List Fork) where
  -- the step at the point with this place
  abbrev pub StepAt : ℕ → Step → Type 0
  StepAt m st = IsStepOf forks st × (st.place ≡ m)

  pub at_point : (m : ℕ) (point : Point) (ways : List Next) → slice_get forks m ≡ Some (point, ways) → (st : Step) → StepAt m st ↔ IsStepAt m point ways st
  at_point m point ways there st = (
    (λ h.
        let listed : slice_get forks m ≡ Some (st.point, h.0.ways) = subst (λ (n : ℕ). slice_get forks n ≡ Some (st.point, h.0.ways)) h.1 h.0.listed in
        let same : (st.point, h.0.ways) ≡ (point, ways) = one_at forks m (st.point, h.0.ways) (point, ways) listed there in
        let ways_same : h.0.ways ≡ ways = ap (λ (f : Fork). f.1) same in
        record {
          there = h.1;
          at = ap (λ (f : Fork). f.0) same;
          taken = subst (λ (ns : List Next). slice_get ns st.number ≡ Some (next.Item st.occ st.to)) ways_same h.0.taken;
          many = h.0.many ∙ ap (λ (ns : List Next). length ns) ways_same;
        }),
    (λ h. (record { ways = ways; listed = rw (h.there, h.at) there; taken = h.taken; many = h.many }, h.there)),
  )

  pub steps_at : (n : ℕ) → length forks ≤ n → (st : Step) → ((m : ℕ) × (m < n) × StepAt m st) ↔ IsStepOf forks st
  steps_at n l st = (
    (λ h. h.2.0),
    (λ h. (st.place, (let w = slice_get_within forks st.place (st.point, h.ways) h.listed in omega (arith, w, l)), (h, refl))),
  )

module _ (place : ℕ) (edge : Edge) (entries : List ℕ) where
  -- the word with this number
  abbrev pub WordBy : ℕ → Word → Type 0
  WordBy m w = IsWordAt place edge entries w × (w.number ≡ m)

  pub one_word : (m entry : ℕ) → slice_get entries m ≡ Some entry → (w : Word)
      → WordBy m w ↔ (w ≡ record { place = place; edge = edge; number = m; of = length entries; entry = entry })
  one_word m entry there w = (
    (λ h.
        let at : slice_get entries m ≡ Some w.entry = subst (λ (n : ℕ). slice_get entries n ≡ Some w.entry) h.1 h.0.taken in
        let same : w.entry ≡ entry = one_at entries m w.entry entry at there in
        λ i. record { place = h.0.there i; edge = h.0.at i; number = h.1 i; of = h.0.many i; entry = same i }),
    (λ e. (
      record {
        there = ap (λ (s : Word). s.place) e;
        at = ap (λ (s : Word). s.edge) e;
        taken = rw e there;
        many = ap (λ (s : Word). s.of) e;
      },
      ap (λ (s : Word). s.number) e,
    )),
  )

  pub words_by : (n : ℕ) → length entries ≤ n → (w : Word) → ((m : ℕ) × (m < n) × WordBy m w) ↔ IsWordAt place edge entries w
  words_by n l w = (
    (λ h. h.2.0),
    (λ h. (w.number, (let i = slice_get_within entries w.number w.entry h.taken in omega (arith, i, l)), (h, refl))),
  )

module _ (edges : List Edge) (lists : List (List ℕ)) where
  -- the word of the edge with this place
  abbrev pub WordAt : ℕ → Word → Type 0
  WordAt m w = IsWordOf edges lists w × (w.place ≡ m)

  pub at_edge : (m : ℕ) (edge : Edge) (entries : List ℕ) → slice_get edges m ≡ Some edge → slice_get lists m ≡ Some entries
      → (w : Word) → WordAt m w ↔ IsWordAt m edge entries w
  at_edge m edge entries there beside w = (
    (λ h.
        let listed : slice_get edges m ≡ Some w.edge = subst (λ (n : ℕ). slice_get edges n ≡ Some w.edge) h.1 h.0.listed in
        let by : slice_get lists m ≡ Some h.0.entries = subst (λ (n : ℕ). slice_get lists n ≡ Some h.0.entries) h.1 h.0.beside in
        let same : h.0.entries ≡ entries = one_at lists m h.0.entries entries by beside in
        record {
          there = h.1;
          at = one_at edges m w.edge edge listed there;
          taken = subst (λ (ks : List ℕ). slice_get ks w.number ≡ Some w.entry) same h.0.taken;
          many = h.0.many ∙ ap (λ (ks : List ℕ). length ks) same;
        }),
    (λ h. (record { entries = entries; listed = rw (h.there, h.at) there; beside = rw h.there beside; taken = h.taken; many = h.many }, h.there)),
  )

  pub words_at : (n : ℕ) → length edges ≤ n → (w : Word) → ((m : ℕ) × (m < n) × WordAt m w) ↔ IsWordOf edges lists w
  words_at n l w = (
    (λ h. h.2.0),
    (λ h. (w.place, (let i = slice_get_within edges w.place w.edge h.listed in omega (arith, i, l)), (h, refl))),
  )
