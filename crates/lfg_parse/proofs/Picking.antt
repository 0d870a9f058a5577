-- Each derivation is picked by the assignment that takes at each choice what the derivation has there.
use Rattle.std.proofs.Common.{◌≡◌, ℕ, ◌+◌, ◌<◌, Option, Some, None, List, length, slice_get, refl, sym, ap, subst, ◌∙◌, arith, inl, inr}
use Rattle.std.specs.Option.{unwrap_or}
use Rattle.lfg_terms.specs.declared.node.Edge.{Edge}
use Rattle.lfg_terms.specs.declared.grammar.Grammar.{Grammar}
use Rattle.lfg_terms.specs.declared.tree.TokenForms.{TokenForms}
use Rattle.lfg_context.specs.Sets.{Assignment}
use Rattle.lfg_model.specs.declared.point.Next.{Next}
use Rattle.lfg_model.specs.Charts.{Fork, nexts_at, IsChart}
use Rattle.lfg_model.specs.Derive.{edge, Whole}
use Rattle.lfg_model.specs.Lists.{In}
use Rattle.lfg_model.specs.Loaded.{Loaded}
use Rattle.lfg_model.specs.Places.{places}
use Rattle.lfg_model.specs.Spots.{Spot, AnEdge, AStep, AWord, APick, spots_of, Stands}
use Rattle.lfg_model.specs.Terms.{Tree}
use Rattle.lfg_model.proofs.ChartLaws.{chart_has_all_nexts}
use Rattle.lfg_packed.specs.Assignments.{alternative_at, IsAlternative, IsPickedBy}
use Rattle.lfg_packed.specs.ChoicePoints.{ChoicePoint, NextAt, EntryAt, BranchAt}
use Rattle.lfg_packed.specs.Choices.{annotation_at, HasAlternatives, PlacedChoice, AreChoices}
use Rattle.lfg_packed.proofs.Listing.{In_get}
use Rattle.lfg_packed.proofs.Selecting.{picks_stand}
use Rattle.lfg_parse.specs.Picking.{AllArePicked}
use Rattle.lfg_parse.proofs.Entries.{entries_for, entries_stand}
use Rattle.lfg_parse.proofs.Finding.{find_step, find_word, find_pick}
use Rattle.lfg_parse.proofs.OneThing.{one_step, one_word, one_pick}
use Rattle.lfg_parse.proofs.Taking.{get_less, takes_it, picks_are}

module _ (g : Grammar) (s : List TokenForms) (loaded : Loaded g) (cs : List PlacedChoice) (choices : AreChoices g s cs) (edges : List Edge) (forks : List Fork) (chart : IsChart g s edges forks)
    (d : Tree) (whole : Whole g s d) where
  -- the entries for an edge
  abbrev entries : Edge → List ℕ
  entries e = (entries_for g s e).0

  abbrev root : Edge
  root = edge g.root 0 (length s)

  stands : (x : Spot) → In x (spots_of d 0) → Stands g s x
  stands x i = record { derivation = d; whole = whole; has = i }

  -- at the place the derivation has the alternative with this number, if it has anything there
  abbrev IsNumber : ChoicePoint → ℕ → Type 0
  IsNumber (NextAt p) k = (n : Next) → In (AStep p n) (spots_of d 0) → slice_get (nexts_at forks p) k ≡ Some n
  IsNumber (EntryAt e) k = (n : ℕ) → In (AWord e n) (spots_of d 0) → slice_get (entries e) k ≡ Some n
  IsNumber (BranchAt at place) k = (picks : List ℕ) → In (APick at picks) (spots_of d 0) → (m : ℕ) → slice_get picks place ≡ Some m → m ≡ k

  number : (x : ChoicePoint) → (k : ℕ) × IsNumber x k
  number (NextAt p) = elim (find_step (spots_of d 0) p) [
    | inl r ↦ (let there = In_get (((chart_has_all_nexts g s edges forks chart p).exact r.0).1 (stands (AStep p r.0) r.1)) in
        (there.0, λ n i. there.1 ∙ ap Some (one_step g s loaded d root whole.derives p r.0 n r.1 i)))
    | inr none ↦ (0, λ n i. absurd (none n i))
  ]
  number (EntryAt e) = elim (find_word (spots_of d 0) e) [
    | inl r ↦ (let there = In_get (((entries_stand g s loaded e r.0 (stands (AWord e r.0) r.1)).exact r.0).1 (stands (AWord e r.0) r.1)) in
        (there.0, λ n i. there.1 ∙ ap Some (one_word g s loaded d root whole.derives e r.0 n r.1 i)))
    | inr none ↦ (0, λ n i. absurd (none n i))
  ]
  number (BranchAt at place) = elim (find_pick g s (spots_of d 0) at) [
    | inl r ↦ (
      unwrap_or (slice_get r.0 place) 0,
      λ picks i m e.
          (let same : r.0 ≡ picks = one_pick g s loaded d root whole.derives at r.0 picks r.1 i in
          sym (ap (λ (ps : List ℕ). unwrap_or (slice_get ps place) 0) same ∙ ap (λ o. unwrap_or o 0) e)),
    )
    | inr none ↦ (0, λ picks i m e. absurd (none picks i))
  ]

  abbrev number_at : Option PlacedChoice → ℕ
  number_at None = 0
  number_at (Some c) = (number c.at).0

  -- at each choice the assignment takes what the derivation has there
  abbrev assignment : Assignment
  assignment k = number_at (slice_get cs k)

  takes_number : (x : ChoicePoint) (many : ℕ) → HasAlternatives g s x many → (number x).0 < many → alternative_at g s cs assignment x ≡ (number x).0
  takes_number x many has less = takes_it g s assignment cs x many (number x).0 choices has less (λ i at. ap number_at at)

  takes : (x : Spot) → In x (spots_of d 0) → IsAlternative g s cs assignment x
  takes (AnEdge e) i = tt
  takes (AStep p n) i =
      let l = chart_has_all_nexts g s edges forks chart p in
      let r = number (NextAt p) in
      let at : slice_get (nexts_at forks p) r.0 ≡ Some n = r.1 n i in
      let P : ℕ → Type 0 = λ k. slice_get (nexts_at forks p) k ≡ Some n in
      (nexts_at forks p, l, subst P (sym (takes_number (NextAt p) (length (nexts_at forks p)) (nexts_at forks p, l, refl) (get_less (nexts_at forks p) r.0 n at))) at)
  takes (AWord e n) i =
      let l = entries_stand g s loaded e n (stands (AWord e n) i) in
      let r = number (EntryAt e) in
      let at : slice_get (entries e) r.0 ≡ Some n = r.1 n i in
      let P : ℕ → Type 0 = λ k. slice_get (entries e) k ≡ Some n in
      (entries e, l, subst P (sym (takes_number (EntryAt e) (length (entries e)) (entries e, l, refl) (get_less (entries e) r.0 n at))) at)
  takes (APick at picks) i =
      let st = stands (APick at picks) i in
      picks_are (λ k. alternative_at g s cs assignment (BranchAt at k)) 0 picks (places (annotation_at g at)) (picks_stand g s loaded at picks st).0
      (λ j n m a b l.
      (let r = number (BranchAt at j) in
      let e : m ≡ r.0 = r.1 picks i m a in
      let less : r.0 < n = omega (arith, e, l) in
      e ∙ sym (takes_number (BranchAt at j) n ((picks, st), b) less) ∙ ap (λ (k : ℕ). alternative_at g s cs assignment (BranchAt at k)) (from_zero j)))
    where
      from_zero : (j : ℕ) → j ≡ 0 + j
      from_zero j = omega arith

  picked : (a : Assignment) × IsPickedBy g s cs a d
  picked = (assignment, record { whole = whole; takes = takes })

pub all_are_picked : AllArePicked
all_are_picked g s cs loaded choices edges forks chart d whole = picked g s loaded cs choices edges forks chart d whole
