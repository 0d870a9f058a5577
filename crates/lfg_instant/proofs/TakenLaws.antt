-- What an assignment takes at a place with a choice.
use Rattle.std.proofs.Common.{◌≡◌, ℕ, zero, suc, ◌+◌, ◌<◌, ◌≤◌, ◌==◌, true, false, cond, Some, List, [], ◌∷◌, map, length, slice_get, refl, ap, sym, subst, ◌∙◌, arith}
use Rattle.std.specs.Option.{option_map}
use Rattle.std.specs.Ordering.{eq_by_cmp, is_eq, nat_cmp, on, ordering_then}
use Rattle.std.specs.declared.cmp.Ordering.TheVariants.{Less}
use Rattle.std.specs.List.{AllByRecursion}
use Rattle.std.specs.List.Sorted.{IsStrictlySortedBy}
use Rattle.std.proofs.lemmas.Cmp.{eq_by_cmp_equiv, on_total}
use Rattle.std.proofs.lemmas.Option.{same_Some, slice_get-map}
use Rattle.lfg_terms.specs.declared.grammar.Grammar.{Grammar}
use Rattle.lfg_terms.specs.declared.tree.TokenForms.{TokenForms}
use Rattle.lfg_terms.specs.declared.choice.Choice.{Choice}
use Rattle.lfg_choice.specs.Choices.{alternatives_of}
use Rattle.lfg_context.specs.Cubes.{taken}
use Rattle.lfg_context.specs.Seen.{Set, Known}
use Rattle.lfg_context.specs.Sets.{Assignment, IsSetOf}
use Rattle.lfg_model.specs.Lists.{In, here, later}
use Rattle.lfg_model.proofs.Ascending.{all_in}
use Rattle.lfg_model.proofs.ListLaws.{In_from_map}
use Rattle.lfg_packed.specs.declared.key.ChoiceKey.{ChoiceKey}
use Rattle.lfg_packed.specs.KeyLaws.{key_cmp_total}
use Rattle.lfg_packed.specs.ChoicePoints.{ChoicePoint, key_of, key_cmp, choice_cmp}
use Rattle.lfg_packed.specs.Choices.{PlacedChoice, AreChoices, HasAlternatives, choice_of}
use Rattle.lfg_packed.specs.Assignments.{taken_from, alternative_at}
use Rattle.lfg_packed.proofs.KeyTies.{one_place}
use Rattle.lfg_packed.proofs.Listing.{get_In}
use Rattle.lfg_packed.proofs.Selecting.{within}
use Rattle.lfg_instant.specs.declared.junctions.Junction.{Junction}
use Rattle.lfg_instant.specs.JunctionOrder.{junction_cmp}
use Rattle.lfg_instant.specs.Junctions.{placed, place_of_key, IsPlaceKey, AreJunctions}
use Rattle.lfg_instant.proofs.JunctionsHold.{place_of}

module _ (g : Grammar) (s : List TokenForms) (a : Assignment) where
  pub taken_at : (k : ℕ) (cs : List PlacedChoice) (x : ChoicePoint) (i n : ℕ) → IsStrictlySortedBy (on (λ c. c.at) (choice_cmp g s)) cs → slice_get cs i ≡ Some (record { at = x; alternatives = n })
      → taken_from g s a k cs x ≡ taken a (k + i) n
  unfolding IsStrictlySortedBy
  taken_at k [] x i n sorted h = cc
  taken_at k (c ∷ cs) x zero n sorted h =
      let e : c ≡ record { at = x; alternatives = n } = same_Some c (record { at = x; alternatives = n }) h in
      let at : c.at ≡ x = ap (λ (z : PlacedChoice). z.at) e in
      let many : c.alternatives ≡ n = ap (λ (z : PlacedChoice). z.alternatives) e in
      let t : eq_by_cmp (choice_cmp g s) c.at x ≡ true = subst (λ (z : ChoicePoint). eq_by_cmp (choice_cmp g s) c.at z ≡ true) at ((eq_by_cmp_equiv (on_total (key_of g s) key_cmp_total)).refl c.at) in
      ap (λ b. cond b (taken a k c.alternatives) (taken_from g s a (k + 1) cs x)) t ∙ ap (λ m. taken a k m) many ∙ ap (λ m. taken a m n) (no_more k)
    where
      no_more : (k : ℕ) → k ≡ k + 0
      no_more k = omega arith
  taken_at k (c ∷ cs) x (suc i) n sorted h =
      let less : choice_cmp g s c.at x ≡ Less = all_in (λ d. choice_cmp g s c.at d.at ≡ Less) sorted.0 (get_In cs i (record { at = x; alternatives = n }) h) in
      let f : eq_by_cmp (choice_cmp g s) c.at x ≡ false = ap is_eq less in
      ap (λ b. cond b (taken a k c.alternatives) (taken_from g s a (k + 1) cs x)) f ∙ taken_at (k + 1) cs x i n sorted.1 h ∙ ap (λ m. taken a m n) (shift k i)
    where
      shift : (k i : ℕ) → (k + 1) + i ≡ k + suc i
      shift k i = omega arith

  -- of a place with one alternative the first one is taken
  pub one_taken : (cs : List PlacedChoice) (x : ChoicePoint) (many number : ℕ) → AreChoices g s cs → HasAlternatives g s x many → number < many → many < 2 → alternative_at g s cs a x ≡ number
  one_taken cs x many number choices has less few =
      let w = within g s cs a x many choices has (omega arith) in
      omega (arith, w)

abbrev with_number : ChoicePoint → ℕ → PlacedChoice
with_number x n = record { at = x; alternatives = n }

module _ (g : Grammar) (s : List TokenForms) (js : List Junction) (are : AreJunctions g s js) where
  -- where a junction is listed, the alternative of its choice is taken
  pub junction_taken : (x : ChoicePoint) (key : ChoiceKey) (i n : ℕ) → key ≡ key_of g s x → slice_get js i ≡ Some (record { key = key; alternatives = n })
      → (a : Assignment) → alternative_at g s (map placed js) a x ≡ taken a i n
  junction_taken x key i n is at a =
      let same : place_of_key key ≡ x = ap place_of_key is ∙ place_of g s x in
      let there : slice_get (map placed js) i ≡ Some (record { at = x; alternatives = n }) =
      slice_get-map placed js i ∙ ap (option_map placed) at ∙ ap (λ (z : ChoicePoint). Some (with_number z n)) same in
      taken_at g s a 0 (map placed js) x i n are.choices.ascends there ∙ ap (λ k. taken a k n) (from_none i)
    where
      from_none : (i : ℕ) → 0 + i ≡ i
      from_none i = omega arith

-- the number of alternatives of a junction's choice
pub alternatives_at : (js : List Junction) (i : ℕ) (key : ChoiceKey) (n : ℕ) → slice_get js i ≡ Some (record { key = key; alternatives = n }) → alternatives_of (map choice_of (map placed js)) i ≡ n
alternatives_at [] i key n h = cc
alternatives_at (j ∷ js) zero key n h = ap (λ (z : Junction). z.alternatives) (same_Some j (record { key = key; alternatives = n }) h)
alternatives_at (j ∷ js) (suc i) key n h = alternatives_at js i key n h

pub as_many : (js : List Junction) → length (map choice_of (map placed js)) ≡ length js
as_many [] = refl
as_many (j ∷ js) = ap suc (as_many js)

self_equal : (n : ℕ) → (n == n) ≡ true
self_equal n = grind arith

-- a place with one alternative takes it everywhere
pub one_set : (g : Grammar) (s : List TokenForms) (js : List Junction) → AreJunctions g s js → (x y : ChoicePoint) (key : ChoiceKey) (many number : ℕ) → key ≡ key_of g s x
    → IsPlaceKey g s y key many number → many < 2 → (k : Known) (set : Set) → IsSetOf k set (λ _. true) → IsSetOf k set (λ a. alternative_at g s (map placed js) a x == number)
one_set g s js are x y key many number is p few k set h = record {
  made = h.made;
  members = λ a.
      (let same : y ≡ x = one_place g s y x (sym p.is ∙ is) in
      let P : ChoicePoint → Type 0 = λ z. HasAlternatives g s z many in
      let e : alternative_at g s (map placed js) a x ≡ number = one_taken g s a (map placed js) x many number are.choices (subst P same p.has) p.within few in
      h.members a ∙ sym (self_equal number) ∙ ap (λ v. v == number) (sym e));
}

-- one with more takes it where the assignment takes the alternative of its choice
pub picked_set : (g : Grammar) (s : List TokenForms) (js : List Junction) → AreJunctions g s js → (space : List Choice) → space ≡ map choice_of (map placed js)
    → (x : ChoicePoint) (key : ChoiceKey) (i n number : ℕ) → key ≡ key_of g s x → slice_get js i ≡ Some (record { key = key; alternatives = n })
    → (k : Known) (set : Set) → IsSetOf k set (λ a. taken a i (alternatives_of space i) == number) → IsSetOf k set (λ a. alternative_at g s (map placed js) a x == number)
picked_set g s js are space e x key i n number is at k set h = record {
  made = h.made;
  members = λ a.
      (let m : alternatives_of space i ≡ n = ap (λ (cs : List Choice). alternatives_of cs i) e ∙ alternatives_at js i key n at in
      h.members a ∙ ap (λ v. taken a i v == number) m ∙ ap (λ v. v == number) (sym (junction_taken g s js are x key i n is at a)));
}

-- the number is one of the alternatives of the junction's choice, which is in the space
pub number_within : (js : List Junction) (space : List Choice) → space ≡ map choice_of (map placed js) → (key : ChoiceKey) (i n many number : ℕ) → slice_get js i ≡ Some (record { key = key; alternatives = n })
    → n ≡ many → number < many → number < alternatives_of space i
number_within js space e key i n many number at same l =
    let m : alternatives_of space i ≡ n = ap (λ (cs : List Choice). alternatives_of cs i) e ∙ alternatives_at js i key n at in
    omega (arith, m, same, l)

-- a list of junctions that are the choices of a sentence ascends, and has one at each place with two
-- alternatives or more
module _ (g : Grammar) (s : List TokenForms) where
  less_junctions : (j k : Junction) → j.key ≡ key_of g s (place_of_key j.key) → k.key ≡ key_of g s (place_of_key k.key) → choice_cmp g s (place_of_key j.key) (place_of_key k.key) ≡ Less → junction_cmp j k ≡ Less
  less_junctions j k a b h =
      let l : key_cmp j.key k.key ≡ Less = ap (λ (z : ChoiceKey). key_cmp z k.key) a ∙ ap (λ (z : ChoiceKey). key_cmp (key_of g s (place_of_key j.key)) z) b ∙ h in
      ap (λ o. ordering_then o (nat_cmp j.alternatives k.alternatives)) l

  abbrev HasOwnKey : Junction → Type 0
  HasOwnKey j = j.key ≡ key_of g s (place_of_key j.key)

  all_behind : (j : Junction) (js : List Junction) → HasOwnKey j → ((k : Junction) → In k js → HasOwnKey k) → AllByRecursion (λ c. choice_cmp g s (place_of_key j.key) c.at ≡ Less) (map placed js) → AllByRecursion (λ k. junction_cmp j k ≡ Less) js
  all_behind j [] a b h = tt
  all_behind j (k ∷ js) a b h = (less_junctions j k a (b k here) h.0, all_behind j js a (λ z i. b z (later i)) h.1)

  pub junctions_ascend : (js : List Junction) → ((k : Junction) → In k js → HasOwnKey k) → IsStrictlySortedBy (on (λ c. c.at) (choice_cmp g s)) (map placed js) → IsStrictlySortedBy junction_cmp js
  unfolding IsStrictlySortedBy
  junctions_ascend [] keys h = tt
  junctions_ascend (j ∷ js) keys h = (all_behind j js (keys j here) (λ k i. keys k (later i)) h.0, junctions_ascend js (λ k i. keys k (later i)) h.1)

  pub junction_there : (js : List Junction) → AreJunctions g s js → (x : ChoicePoint) (key : ChoiceKey) (many number n : ℕ) → IsPlaceKey g s x key many number → n ≡ many → 2 ≤ many
      → In {X = Junction} (record { key = key; alternatives = n }) js
  junction_there js are x key many number n p same two =
      let r = In_from_map placed js ((are.choices.exact (with_number x many)).1 (p.has, two)) in
      let j : Junction = r.0 in
      let at : place_of_key j.key ≡ x = ap (λ (c : PlacedChoice). c.at) r.2 in
      let m : j.alternatives ≡ n = ap (λ (c : PlacedChoice). c.alternatives) r.2 ∙ sym same in
      let k : j.key ≡ key = are.keys j r.1 ∙ ap (key_of g s) at ∙ sym p.is in
      let e : j ≡ record { key = key; alternatives = n } = λ i. record { key = k i; alternatives = m i } in
      let P : Junction → Type 0 = λ z. In z js in subst P e r.1
