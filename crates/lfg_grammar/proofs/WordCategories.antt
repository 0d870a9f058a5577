-- Looking a category up among those of the words, in order.
use Rattle.std.proofs.Common.{◌≡◌, ℕ, zero, suc, ◌<◌, ◌≤◌, ◌⊎◌, inl, inr, true, false, Result, Ok, Err, is_ok, List, length, get_or, refl, sym, ◌∙◌, subst, arith, Less, Equal, Greater, Ordering}
use Rattle.std.specs.List.Sorted.{IsPermutation, IsSorted, IsSearchInRange, IsBinarySearchResult, IsPartitionPoint}
use Rattle.std.proofs.lemmas.Cmp.{nat_list_cmp_total}
use Rattle.std.proofs.lemmas.List.Sorted.{Contains-permutation, IsPermutation-sym, searchable_from_sorted}
use Rattle.lfg_terms.specs.Order.{name_cmp}
use Rattle.lfg_terms.proofs.Ties.{name_cmp_same}
use Rattle.lfg_model.specs.Lists.{In}
use Rattle.lfg_model.specs.Terms.{Name}
use Rattle.lfg_model.proofs.ListLaws.{In-at, In-place, Contains_from_In, In_from_Contains}

found : (ys : List Name) (cat : Name) (i : ℕ) → i < length ys → name_cmp (get_or ys i cat) cat ≡ Equal → In cat ys
found ys cat i l h = subst (λ (x : Name). In x ys) ((name_cmp_same (get_or ys i cat) cat).0 h) (In-at ys i cat l)

pub found_word : (xs ys : List Name) (cat : Name) (r : Result ℕ ℕ) → IsPermutation xs ys → IsSearchInRange r (length ys) → IsBinarySearchResult (λ y. name_cmp y cat) ys r → is_ok r ≡ true → In cat xs
found_word xs ys cat (Ok i) p l h e = In_from_Contains xs cat (Contains-permutation ys xs cat (IsPermutation-sym xs ys p) (Contains_from_In (found ys cat i l (h cat))))
found_word xs ys cat (Err i) p l h e = cc

lt_or_le : (k i : ℕ) → (k < i) ⊎ (i ≤ k)
lt_or_le k zero = inr (omega arith)
lt_or_le zero (suc i) = inl (omega arith)
lt_or_le (suc k) (suc i) = elim (lt_or_le k i) [ inl a ↦ inl (omega arith) | inr b ↦ inr (omega arith) ]

-- neither below nor above itself
level : (cat : Name) (o : Ordering) → name_cmp cat cat ≡ o → o ≡ Equal
level cat o e = sym e ∙ (name_cmp_same cat cat).1 refl

apart : (ys : List Name) (cat : Name) (i k : ℕ) → IsPartitionPoint (λ y. name_cmp y cat ≡ Less) (λ y. name_cmp y cat ≡ Greater) ys i → k < length ys → get_or ys k cat ≡ cat → (k < i) ⊎ (i ≤ k) → ⊥
apart ys cat i k b l e (inl m) = let no : Less ≡ Equal = level cat Less (subst (λ (x : Name). name_cmp x cat ≡ Less) e (b.0 k cat (omega arith) m)) in cc
apart ys cat i k b l e (inr m) = let no : Greater ≡ Equal = level cat Greater (subst (λ (x : Name). name_cmp x cat ≡ Greater) e (b.1 k cat m l)) in cc

pub no_word : (xs ys : List Name) (cat : Name) (r : Result ℕ ℕ) → IsPermutation xs ys → IsSorted name_cmp ys → IsBinarySearchResult (λ y. name_cmp y cat) ys r → is_ok r ≡ false → In cat xs → ⊥
no_word xs ys cat (Ok i) p s h e j = let no : true ≡ false = e in cc
no_word xs ys cat (Err i) p s h e j =
    let at = In-place (In_from_Contains ys cat (Contains-permutation xs ys cat p (Contains_from_In j))) in
    apart ys cat i at.0 (h (searchable_from_sorted nat_list_cmp_total (λ (x : Name). x) ys cat s)) at.1 (at.2 cat) (lt_or_le at.0 i)
