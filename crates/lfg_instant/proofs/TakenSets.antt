-- The sets of assignments that take the way of a step, or the entry of a word.
use Rattle.std.proofs.Common.{◌≡◌, ◌↔◌, ℕ, ◌<◌, ◌==◌, true, Some, List, [], ◌∷◌, ◌++◌, length, get_or, slice_get, refl, sym, subst, ◌∙◌, arith}
use Rattle.std.proofs.lemmas.Option.{same_Some, slice_get-get_or, slice_get_within}
use Rattle.lfg_terms.specs.declared.node.Edge.{Edge}
use Rattle.lfg_terms.specs.declared.grammar.Grammar.{Grammar}
use Rattle.lfg_terms.specs.declared.tree.TokenForms.{TokenForms}
use Rattle.lfg_context.specs.Seen.{Set}
use Rattle.lfg_context.specs.Sets.{Assignment, member}
use Rattle.lfg_model.specs.Charts.{Fork, IsChart}
use Rattle.lfg_model.specs.Lists.{In}
use Rattle.lfg_packed.specs.ChoicePoints.{NextAt, EntryAt}
use Rattle.lfg_packed.proofs.Listing.{get_In}
use Rattle.lfg_instant.specs.declared.steps.Step.{Step}
use Rattle.lfg_instant.specs.declared.steps.Word.{Word}
use Rattle.lfg_instant.specs.Junctions.{next_key, entry_key, IsPlaceKey}
use Rattle.lfg_instant.specs.Sites.{AreEntryLists}
use Rattle.lfg_instant.specs.Steps.{IsStepOf, AreSteps, IsWordOf, AreWordsOf}
use Rattle.lfg_instant.proofs.SetLaws.{pushed_each}

module _ (g : Grammar) (s : List TokenForms) where
  -- the key of a step's point is that of its ways to go on, of which the step's is one
  pub step_place : (edges : List Edge) (forks : List Fork) (steps : List Step) → IsChart g s edges forks → AreSteps forks steps
      → (st : Step) → In st steps → IsPlaceKey g s (NextAt st.point) (next_key st.point) st.of st.number
  step_place edges forks steps chart are st i =
      let is : IsStepOf forks st = (are.exact st).0 i in
      let fork : Fork = (st.point, is.ways) in
      let l = slice_get_within is.ways st.number _ is.taken in
      record { is = refl; has = (is.ways, chart.all_nexts fork (get_In forks st.place fork is.listed), is.many); within = omega (arith, l, is.many) }

  -- and that of a word's edge is that of its entries
  pub word_place : (edges : List Edge) (lists : List (List ℕ)) (words : List Word) → AreEntryLists g s edges lists → AreWordsOf edges lists words
      → (w : Word) → In w words → IsPlaceKey g s (EntryAt w.edge) (entry_key w.edge) w.of w.number
  word_place edges lists words entries are w i =
      let is : IsWordOf edges lists w = (are.exact w).0 i in
      let l = slice_get_within is.entries w.number _ is.taken in
      record { is = refl; has = (is.entries, entries.each w.place w.edge is.entries is.listed is.beside, is.many); within = omega (arith, l, is.many) }

same_number : (m n : ℕ) → ((m == n) ≡ true) ↔ (m ≡ n)
same_number m n = (λ h. grind (arith, h), λ h. grind (arith, h))

-- one set more, of the thing that comes next
pub sets_push : {X : Type 0} (alternative : Assignment → X → ℕ) (number : X → ℕ) (xs : List X) (sets : List Set) (x : X) (z : Set) (n : ℕ) → n < length xs → x ≡ get_or xs n x → length sets ≡ n
    → ((i : ℕ) (y : X) (w : Set) → slice_get xs i ≡ Some y → slice_get sets i ≡ Some w → (a : Assignment) → (member w a ≡ true) ↔ (alternative a y ≡ number y))
    → ((a : Assignment) → member z a ≡ (alternative a x == number x))
    → (i : ℕ) (y : X) (w : Set) → slice_get xs i ≡ Some y → slice_get (sets ++ z ∷ []) i ≡ Some w → (a : Assignment) → (member w a ≡ true) ↔ (alternative a y ≡ number y)
sets_push {X} alternative number xs sets x z n l at len before new i y w e f a =
    let P : ℕ → Set → Type 0 = λ j v. (y : X) → slice_get xs j ≡ Some y → (a : Assignment) → (member v a ≡ true) ↔ (alternative a y ≡ number y) in
    pushed_each P sets z n len (λ j v h y k a. before j y v k h a) last i w f y e a
  where
    last : (y : X) → slice_get xs n ≡ Some y → (a : Assignment) → (member z a ≡ true) ↔ (alternative a y ≡ number y)
    last y e a =
        let there : slice_get xs n ≡ Some (get_or xs n x) = slice_get-get_or xs n x l in
        let same : x ≡ y = at ∙ same_Some (get_or xs n x) y (sym there ∙ e) in
        let both = same_number (alternative a x) (number x) in
        let Q : X → Type 0 = λ v. (member z a ≡ true) ↔ (alternative a v ≡ number v) in
        subst Q same (λ h. both.0 (sym (new a) ∙ h), λ h. new a ∙ both.1 h)
