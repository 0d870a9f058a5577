-- What an assignment takes at a place that has a choice, or one alternative alone.
use Rattle.std.proofs.Common.{◌≡◌, ℕ, zero, suc, ◌+◌, ◌-◌, ◌<◌, min, true, false, cond, Some, List, [], ◌∷◌, length, slice_get, refl, ap, subst, ◌∙◌, arith}
use Rattle.std.specs.Ordering.{eq_by_cmp, is_eq, on}
use Rattle.std.specs.declared.cmp.Ordering.TheVariants.{Less}
use Rattle.std.specs.List.Sorted.{IsStrictlySortedBy}
use Rattle.std.proofs.lemmas.Cmp.{eq_by_cmp_equiv, on_total}
use Rattle.std.proofs.lemmas.Option.{same_Some}
use Rattle.lfg_terms.specs.declared.grammar.Grammar.{Grammar}
use Rattle.lfg_terms.specs.declared.tree.TokenForms.{TokenForms}
use Rattle.lfg_context.specs.Cubes.{taken}
use Rattle.lfg_context.specs.Sets.{Assignment}
use Rattle.lfg_model.proofs.Ascending.{all_in}
use Rattle.lfg_model.specs.Places.{PicksFit}
use Rattle.lfg_packed.specs.KeyLaws.{key_cmp_total}
use Rattle.lfg_packed.specs.ChoicePoints.{ChoicePoint, key_of, choice_cmp}
use Rattle.lfg_packed.specs.Choices.{PlacedChoice, AreChoices, HasAlternatives}
use Rattle.lfg_packed.specs.Assignments.{taken_from, alternative_at, picks_from}
use Rattle.lfg_packed.proofs.Listing.{In_get, get_In}
use Rattle.lfg_packed.proofs.Selecting.{within}

-- a number is below the length of the list in which it has an element
pub get_less : {X : Type 0} (xs : List X) (k : ℕ) (x : X) → slice_get xs k ≡ Some x → k < length xs
get_less [] k x h = cc
get_less (y ∷ xs) zero x h = omega arith
get_less (y ∷ xs) (suc k) x h = let r = get_less xs k x h in omega (arith, r)

abbrev with_number : ChoicePoint → ℕ → PlacedChoice
with_number x n = record { at = x; alternatives = n }

module _ (g : Grammar) (s : List TokenForms) (a : Assignment) where
  -- where a choice is listed, its alternative is taken
  taken_at : (k : ℕ) (cs : List PlacedChoice) (x : ChoicePoint) (i n : ℕ) → IsStrictlySortedBy (on (λ c. c.at) (choice_cmp g s)) cs → slice_get cs i ≡ Some (with_number x n)
      → taken_from g s a k cs x ≡ taken a (k + i) n
  unfolding IsStrictlySortedBy
  taken_at k [] x i n sorted h = cc
  taken_at k (c ∷ cs) x zero n sorted h =
      let e : c ≡ with_number x n = same_Some c (with_number x n) h in
      let at : c.at ≡ x = ap (λ (z : PlacedChoice). z.at) e in
      let many : c.alternatives ≡ n = ap (λ (z : PlacedChoice). z.alternatives) e in
      let t : eq_by_cmp (choice_cmp g s) c.at x ≡ true = subst (λ (z : ChoicePoint). eq_by_cmp (choice_cmp g s) c.at z ≡ true) at ((eq_by_cmp_equiv (on_total (key_of g s) key_cmp_total)).refl c.at) in
      ap (λ b. cond b (taken a k c.alternatives) (taken_from g s a (k + 1) cs x)) t ∙ ap (λ m. taken a k m) many ∙ ap (λ m. taken a m n) (no_more k)
    where
      no_more : (k : ℕ) → k ≡ k + 0
      no_more k = omega arith
  taken_at k (c ∷ cs) x (suc i) n sorted h =
      let less : choice_cmp g s c.at x ≡ Less = all_in (λ d. choice_cmp g s c.at d.at ≡ Less) sorted.0 (get_In cs i (with_number x n) h) in
      let f : eq_by_cmp (choice_cmp g s) c.at x ≡ false = ap is_eq less in
      ap (λ b. cond b (taken a k c.alternatives) (taken_from g s a (k + 1) cs x)) f ∙ taken_at (k + 1) cs x i n sorted.1 h ∙ ap (λ m. taken a m n) (shift k i)
    where
      shift : (k i : ℕ) → (k + 1) + i ≡ k + suc i
      shift k i = omega arith

  from_none : (i : ℕ) → 0 + i ≡ i
  from_none i = omega arith

  least : (n m : ℕ) → n < m → min n (m - 1) ≡ n
  least n m l = omega arith

  -- An assignment that has the number of an alternative at each choice of a place takes that
  -- alternative there, with a choice or without.
  pub takes_it : (cs : List PlacedChoice) (x : ChoicePoint) (many number : ℕ) → AreChoices g s cs → HasAlternatives g s x many → number < many
      → ((i : ℕ) → slice_get cs i ≡ Some (with_number x many) → a i ≡ number) → alternative_at g s cs a x ≡ number
  takes_it cs x zero number choices has less gives = let no : ⊥ = omega (arith, less) in absurd no
  takes_it cs x (suc zero) number choices has less gives = let w = within g s cs a x (suc zero) choices has (omega arith) in omega (arith, w, less)
  takes_it cs x (suc (suc m)) number choices has less gives =
      let there = In_get ((choices.exact (with_number x (suc (suc m)))).1 (has, omega arith)) in
      taken_at 0 cs x there.0 (suc (suc m)) choices.ascends there.1 ∙ ap (λ k. taken a k (suc (suc m))) (from_none there.0)
      ∙ ap (λ k. min k (suc (suc m) - 1)) (gives there.0 there.1) ∙ least number (suc (suc m)) less

-- picks that are taken one by one
pub picks_are : (f : ℕ → ℕ) (k : ℕ) (picks ns : List ℕ) → PicksFit picks ns → ((j n m : ℕ) → slice_get picks j ≡ Some m → slice_get ns j ≡ Some n → m < n → m ≡ f (k + j)) → picks ≡ picks_from f k ns
picks_are f k [] [] fit h = refl
picks_are f k [] (n ∷ ns) fit h = absurd fit
picks_are f k (m ∷ picks) [] fit h = absurd fit
picks_are f k (m ∷ picks) (n ∷ ns) fit h =
    let first : m ≡ f k = h 0 n m refl refl fit.0 ∙ ap f (no_more k) in
    let rest = picks_are f (k + 1) picks ns fit.1 (λ j x y a b l. h (suc j) x y a b l ∙ ap f (shift k j)) in
    λ i. first i ∷ rest i
  where
    no_more : (k : ℕ) → k + 0 ≡ k
    no_more k = omega arith

    shift : (k j : ℕ) → k + suc j ≡ (k + 1) + j
    shift k j = omega arith
