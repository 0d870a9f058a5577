-- Words that are no number.
use Rattle.std.proofs.Common.{◌≡◌, ℕ, ◌<◌, ◌≤◌, ◌+◌, ◌^◌, ◌⊎◌, inl, inr, Bool, true, false, ◌==◌, decimal, List, [], ◌∷◌, length, get_or, refl, sym, ap, ◌∙◌, arith, Result, Ok, Err}
use Rattle.std.specs.Cmp.Lexicographic.{pointwise}
use Rattle.std.proofs.lemmas.Bool.{eq-eqb}
use Rattle.std.proofs.lemmas.Fmt.{decimal_injective}
use Rattle.lfg_model.specs.Settings.{IsNumberTo}
use Rattle.lfg_model.specs.Terms.{Name}

-- a text is the same as itself
pub same_itself : (xs : Name) → pointwise ◌==◌ xs xs ≡ true
same_itself [] = refl
same_itself (x ∷ xs) = let h : (x == x) ≡ true = eq-eqb x x refl in let r = same_itself xs in rw (h, r) refl

-- a text is different from that of its number only if it is the text of no number
pub not_decimal : {E : Type 0} (r : Result ℕ E) (m n : ℕ) (text word own : Name) → r ≡ Ok m → r ≡ Ok n → text ≡ word → word ≡ decimal n → own ≡ decimal m → false ≡ pointwise ◌==◌ own text → ⊥
not_decimal r m n text word own e f t w o d =
    let same : m ≡ n = cc in
    let one : own ≡ text = o ∙ ap decimal same ∙ sym w ∙ sym t in
    let k : pointwise ◌==◌ own text ≡ true = rw one (same_itself text) in
    let no : false ≡ true = d ∙ k in cc

-- the only word of a list
pub one_word : (ws : List Name) (w : Name) → 1 ≤ length ws → length ws < 2 → w ≡ get_or ws 0 w → ws ≡ w ∷ []
one_word [] w l m e = absurd (let no : ⊥ = omega arith in no)
one_word (v ∷ []) w l m e = ap (λ (x : Name). x ∷ []) (sym e)
one_word (v ∷ u ∷ ws) w l m e = absurd (let no : ⊥ = omega arith in no)

first_word : {x y : Name} → x ∷ [] ≡ y ∷ [] → x ≡ y
first_word e = cc

-- the word's number is out of range
pub no_number : (greatest number : ℕ) (w : Name) (ws : List Name) → greatest < 2 ^ 32 → number < 2 ^ 32 → ws ≡ w ∷ [] → w ≡ decimal number → (number ≡ 0) ⊎ (greatest < number) → (n : ℕ) → IsNumberTo greatest ws n → ⊥
no_number greatest number w ws g l e d out n h =
    let same : n ≡ number = decimal_injective n number (let m = h.most in omega arith) (omega arith) (first_word (sym h.is ∙ e) ∙ d) in
    elim out [ inl z ↦ (let a = h.least in omega arith) | inr b ↦ (let a = h.most in omega arith) ]
