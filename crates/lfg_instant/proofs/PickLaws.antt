-- Picks of an assignment at the numbered places of a part.
use Rattle.std.proofs.Common.{◌≡◌, ℕ, zero, suc, ◌==◌, false, Some, List, [], ◌∷◌, ◌++◌, length, take, drop, refl, sym, ap, ◌∙◌}
use Rattle.std.proofs.lemmas.List.{take-map, drop-map, take_at, drop_at}
use Rattle.std.proofs.lemmas.Option.{none-some}
use Prim.Native.Nat.compare
use lib.Dec.{compare_is_eq}
use Rattle.std.specs.Prelude.{slice_get}
use Rattle.lfg_model.specs.Places.{PicksFit}
use Rattle.lfg_context.specs.Seen.{Set}
use Rattle.lfg_context.specs.Sets.{Assignment, member}
use Rattle.lfg_instant.specs.Annotations.{IsPick, ArePicks, arities}

pub picks_before : (picks : List (List Set)) (a : Assignment) (ps : List ℕ) (n : ℕ) → ArePicks picks a ps → ArePicks (take n picks) a (take n ps)
picks_before [] a [] zero p = tt
picks_before [] a [] (suc n) p = tt
picks_before [] a (k ∷ ks) n p = absurd p
picks_before (xs ∷ rest) a [] n p = absurd p
picks_before (xs ∷ rest) a (k ∷ ks) zero p = tt
picks_before (xs ∷ rest) a (k ∷ ks) (suc n) p = (p.0, picks_before rest a ks n p.1)

pub picks_behind : (picks : List (List Set)) (a : Assignment) (ps : List ℕ) (n : ℕ) → ArePicks picks a ps → ArePicks (drop n picks) a (drop n ps)
picks_behind [] a [] zero p = tt
picks_behind [] a [] (suc n) p = tt
picks_behind [] a (k ∷ ks) n p = absurd p
picks_behind (xs ∷ rest) a [] n p = absurd p
picks_behind (xs ∷ rest) a (k ∷ ks) zero p = p
picks_behind (xs ∷ rest) a (k ∷ ks) (suc n) p = picks_behind rest a ks n p.1

pub fit_before : (ps ns ms : List ℕ) → PicksFit ps (ns ++ ms) → PicksFit (take (length ns) ps) ns
fit_before ps [] ms f = tt
fit_before [] (n ∷ ns) ms f = absurd f
fit_before (k ∷ ps) (n ∷ ns) ms f = (f.0, fit_before ps ns ms f.1)

pub fit_behind : (ps ns ms : List ℕ) → PicksFit ps (ns ++ ms) → PicksFit (drop (length ns) ps) ms
fit_behind ps [] ms f = f
fit_behind [] (n ∷ ns) ms f = absurd f
fit_behind (k ∷ ps) (n ∷ ns) ms f = fit_behind ps ns ms f.1

-- the places of what comes first, and of what follows
pub arities_before : (picks own : List (List Set)) (ns ms : List ℕ) → arities picks ≡ ns ++ ms → own ≡ take (length ns) picks → arities own ≡ ns
arities_before picks own ns ms e o = ap arities o ∙ sym (take-map length (length ns) picks) ∙ ap (take (length ns)) e ∙ take_at ns ms (length ns) refl

pub arities_behind : (picks others : List (List Set)) (ns ms : List ℕ) → arities picks ≡ ns ++ ms → others ≡ drop (length ns) picks → arities others ≡ ms
arities_behind picks others ns ms e o = ap arities o ∙ sym (drop-map length (length ns) picks) ∙ ap (drop (length ns)) e ∙ drop_at ns ms (length ns) refl

-- numbers that are one after others
pub later_is_none : (k : ℕ) → (suc k == 0) ≡ false
later_is_none k = ap compare_is_eq (compare.suc-zero k)

pub none_is_later : (k : ℕ) → (0 == suc k) ≡ false
none_is_later k = ap compare_is_eq (compare.zero-suc k)

pub same_later : (i k : ℕ) → (suc i == suc k) ≡ (i == k)
same_later i k = ap compare_is_eq (compare.suc-suc i k)

-- the pick of the first alternative, and of those behind it
pub pick_first : (x : Set) (xs : List Set) (a : Assignment) (k : ℕ) → IsPick (x ∷ xs) a k → member x a ≡ (k == 0)
pick_first x xs a k p = p.exact 0 x refl

pub pick_later : (x : Set) (xs : List Set) (a : Assignment) (k : ℕ) → IsPick (x ∷ xs) a (suc k) → IsPick xs a k
pick_later x xs a k p = record { exact = λ i y e. p.exact (suc i) y e ∙ same_later k i }

past : (i : ℕ) (x : Set) (xs : List Set) → slice_get xs i ≡ Some x → (0 == suc i) ≡ (length xs == i)
past i x [] e = absurd (none-some x e)
past zero x (y ∷ ys) e = none_is_later 0 ∙ sym (later_is_none (length ys))
past (suc i) x (y ∷ ys) e = none_is_later (suc i) ∙ sym (none_is_later i) ∙ past i x ys e ∙ sym (same_later (length ys) i)

pub pick_past : (x : Set) (xs : List Set) (a : Assignment) → IsPick (x ∷ xs) a 0 → IsPick xs a (length xs)
pick_past x xs a p = record { exact = λ i y e. p.exact (suc i) y e ∙ past i y xs e }
