-- How large a sentence is: the sum over its items and entries, by their keys, and that the counts are
-- one number.
use Rattle.std.proofs.Common.{◌≡◌, ℕ, ◌+◌, ◌-◌, ◌^◌, ◌<◌, ◌≤◌, min, max, List, [], ◌∷◌, map, length, refl, sym, ap, ◌∙◌, arith}
use Rattle.std.specs.List.{sum_by, flat_map}
use Rattle.std.specs.Ordering.{on}
use Rattle.std.proofs.lemmas.Cmp.{on_total}
use Rattle.std.proofs.lemmas.List.Sorted.{sum_by-IsPermutation}
use Rattle.std.proofs.lemmas.List.Sums.{sum_by-cons}
use Rattle.lfg_terms.specs.Order.{fact_cmp}
use Rattle.lfg_terms.specs.OrderLaws.{fact_cmp_total}
use Rattle.lfg_terms.specs.declared.node.Fact.{Fact}
use Rattle.lfg_terms.specs.declared.grammar.Grammar.{Grammar}
use Rattle.lfg_terms.specs.declared.tree.TokenForms.{TokenForms}
use Rattle.lfg_model.specs.Lists.{In, Once, Lists}
use Rattle.lfg_model.proofs.Ascending.{one_list, once_from_total}
use Rattle.lfg_packed.specs.declared.key.ChoiceKey.{ChoiceKey}
use Rattle.lfg_packed.specs.ChoicePoints.{key_of, choice_cmp}
use Rattle.lfg_packed.specs.Choices.{annotation_at, HasAlternatives, PlacedChoice, AreChoices}
use Rattle.lfg_packed.specs.Counts.{AreSites, IsLiteralCount, IsTreeFact, IsInstanceCount}
use Rattle.lfg_packed.specs.KeyLaws.{key_cmp_total}
use Rattle.lfg_packed.specs.Sizes.{literal_size}
use Rattle.lfg_packed.proofs.Listing.{same_lists}
use Rattle.lfg_instant.specs.Instants.{IsWithin, IsTooLarge}
use Rattle.lfg_instant.specs.Sites.{site_of_key}

-- the sum over a list that was made of another
pub sum_by_mapped : {X Y : Type 0} (f : Y → ℕ) (h : X → Y) (xs : List X) → sum_by f (map h xs) ≡ sum_by (λ x. f (h x)) xs
sum_by_mapped f h [] = refl
sum_by_mapped f h (x ∷ xs) = sum_by-cons f (h x) (map h xs) ∙ ap (λ n. f (h x) + n) (sum_by_mapped f h xs) ∙ sym (sum_by-cons (λ y. f (h y)) x xs)

singles : {X : Type 0} (xs : List X) → flat_map (λ x. x ∷ []) xs ≡ xs
singles [] = refl
singles (x ∷ xs) = ap (λ ys. x ∷ ys) (singles xs)

-- lists that have the same elements, each once, have one sum
pub one_sum : {X : Type 0} (f : X → ℕ) (xs ys : List X) → Once xs → Once ys → ((x : X) → In x xs → In x ys) → ((x : X) → In x ys → In x xs) → sum_by f xs ≡ sum_by f ys
one_sum {X} f xs ys o q there back =
    let moved = sum_by-IsPermutation f (flat_map (λ x. x ∷ []) xs) (flat_map (λ x. x ∷ []) ys) (same_lists (λ x. x ∷ []) xs ys o q there back) in
    ap (λ (zs : List X). sum_by f zs) (sym (singles xs)) ∙ sym moved ∙ ap (λ (zs : List X). sum_by f zs) (singles ys)

module _ (g : Grammar) (s : List TokenForms) where
  -- a sentence has one number of literals, one list of choices and one list of tree facts
  pub one_literal_count : (m n : ℕ) → IsLiteralCount g s m → IsLiteralCount g s n → m ≡ n
  one_literal_count m n a b =
      a.sum ∙ one_sum (λ at. literal_size (annotation_at g at)) a.sites b.sites a.all.once b.all.once
      (λ at i. (b.all.exact at).1 ((a.all.exact at).0 i)) (λ at i. (a.all.exact at).1 ((b.all.exact at).0 i)) ∙ sym b.sum

  pub one_choices : (cs ds : List PlacedChoice) → AreChoices g s cs → AreChoices g s ds → cs ≡ ds
  one_choices cs ds a b =
      one_list (on (λ c. c.at) (choice_cmp g s)) (once_from_total (on_total (λ (c : PlacedChoice). c.at) (on_total (key_of g s) key_cmp_total)))
      (λ c. HasAlternatives g s c.at c.alternatives × (2 ≤ c.alternatives)) cs ds a b

  pub one_facts : (fs gs : List Fact) → Lists fact_cmp (IsTreeFact g s) fs → Lists fact_cmp (IsTreeFact g s) gs → fs ≡ gs
  one_facts fs gs a b = one_list fact_cmp (once_from_total fact_cmp_total) (IsTreeFact g s) fs gs a b

  pub one_instance_count : (m n : ℕ) → IsInstanceCount g s m → IsInstanceCount g s n → m ≡ n
  one_instance_count m n a b =
      let literals = one_literal_count a.literals b.literals a.counted b.counted in
      let choices = one_choices a.choices b.choices a.are_choices b.are_choices in
      let facts = one_facts a.facts b.facts a.are_facts b.are_facts in
      a.is ∙ (λ i. max (literals i) (max (length (choices i)) (length (facts i)))) ∙ sym b.is

  -- the counts by the keys of the items and entries
  pub literal_count_by_keys : (keys : List ChoiceKey) → AreSites g s (map site_of_key keys) → IsLiteralCount g s (sum_by (λ k. literal_size (annotation_at g (site_of_key k))) keys)
  literal_count_by_keys keys all = record {
    sites = map site_of_key keys;
    all = all;
    sum = sym (sum_by_mapped (λ at. literal_size (annotation_at g at)) site_of_key keys);
  }

  pub instance_count_by_keys : (keys : List ChoiceKey) (cs : List PlacedChoice) (fs : List Fact) → AreSites g s (map site_of_key keys) → AreChoices g s cs → Lists fact_cmp (IsTreeFact g s) fs
      → IsInstanceCount g s (max (sum_by (λ k. literal_size (annotation_at g (site_of_key k))) keys) (max (length cs) (length fs)))
  instance_count_by_keys keys cs fs all are_choices are_facts = record {
    literals = sum_by (λ k. literal_size (annotation_at g (site_of_key k))) keys;
    counted = literal_count_by_keys keys all;
    choices = cs;
    are_choices = are_choices;
    facts = fs;
    are_facts = are_facts;
    is = refl;
  }

-- a sum that stops at a greatest number is past a lesser one exactly where the sum is
within_limit : (sum rest greatest total limit : ℕ) → total ≡ max (min sum greatest) rest → limit < greatest → total ≤ limit → max sum rest ≤ limit
within_limit sum rest greatest total limit e l h = omega (arith, e, l, h)

past_limit : (sum rest greatest total limit : ℕ) → total ≡ max (min sum greatest) rest → limit < total → limit < max sum rest
past_limit sum rest greatest total limit e h = omega (arith, e, h)

module _ (g : Grammar) (s : List TokenForms) (keys : List ChoiceKey) (cs : List PlacedChoice) (fs : List Fact)
    (all : AreSites g s (map site_of_key keys)) (choices : AreChoices g s cs) (facts : Lists fact_cmp (IsTreeFact g s) fs) (total limit : ℕ)
    (is : total ≡ max (min (sum_by (λ k. literal_size (annotation_at g (site_of_key k))) keys) (2 ^ 64 - 1)) (max (length cs) (length fs))) where
  -- the total as it was computed decides whether the sentence is too large
  pub is_within : limit < 2 ^ 64 - 1 → total ≤ limit → IsWithin g s limit
  is_within l h = (_, instance_count_by_keys g s keys cs fs all choices facts, within_limit _ (max (length cs) (length fs)) (2 ^ 64 - 1) total limit is l h)

  pub is_too_large : limit < total → IsTooLarge g s limit
  is_too_large h = (_, instance_count_by_keys g s keys cs fs all choices facts, past_limit _ (max (length cs) (length fs)) (2 ^ 64 - 1) total limit is h)
