-- In a list without repeats a text has one place.
use Rattle.std.proofs.Common.{◌≡◌, ℕ, ◌<◌, ◌&&◌, true, Bool, Some, List, [], ◌∷◌, get_or, refl, ap, ◌∙◌, inl, inr, arith}
use Rattle.std.specs.List.{IsDistinct, slice_get}
use Rattle.std.proofs.lemmas.Bool.{eq-eqb, cases_lt}
use Rattle.std.proofs.lemmas.Option.{slice_get_within, get_or_from_slice_get}
use Rattle.std.proofs.lemmas.Map.Keys.{apart_from_distinct}
use Rattle.lfg_names.specs.Numbering.{same}

same_self : (t : List ℕ) → same t t ≡ true
same_self [] = refl
same_self (x ∷ xs) = ap (λ (b : Bool). b && same xs xs) (eq-eqb x x refl) ∙ same_self xs

never_twice : (ts : List (List ℕ)) (i j : ℕ) (t : List ℕ) → IsDistinct same ts → slice_get ts i ≡ Some t → slice_get ts j ≡ Some t → i < j → ⊥
never_twice ts i j t d e f h =
    let apart = apart_from_distinct same ts i j [] d h (slice_get_within ts j t f) in
    let first : get_or ts i [] ≡ t = get_or_from_slice_get ts i t [] e in
    let second : get_or ts j [] ≡ t = get_or_from_slice_get ts j t [] f in
    let equal : same t t ≡ true = same_self t in
    let no : ⊥ = cc in
    no

pub one_place : (ts : List (List ℕ)) (i j : ℕ) (t : List ℕ) → IsDistinct same ts → slice_get ts i ≡ Some t → slice_get ts j ≡ Some t → j ≡ i
one_place ts i j t d e f = elim (cases_lt i j) [ inl h ↦ absurd (never_twice ts i j t d e f h) | inr h ↦ elim (cases_lt j i) [ inl k ↦ absurd (never_twice ts j i t d f e k) | inr k ↦ omega arith ] ]
