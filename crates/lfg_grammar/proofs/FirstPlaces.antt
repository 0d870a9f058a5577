-- Loops that look for the first element of a list for which something holds.
use Rattle.std.proofs.Common.{◌≡◌, ℕ, zero, suc, ◌+◌, ◌<◌, ◌≤◌, List, [], ◌∷◌, length, get_or, take, subst, refl, sym, ◌∙◌, inl, inr, arith}
use Rattle.std.proofs.lemmas.List.{take_all}
use Rattle.lfg_model.specs.Firsts.{First, first, behind}
use Rattle.lfg_model.specs.Lists.{In, here, later}
use Rattle.lfg_model.specs.TemplateRules.{NoneHas}
use Rattle.lfg_model.proofs.ListLaws.{In-at, In-take_more}
use Rattle.lfg_grammar.specs.Found.{IsFirstAt}

module _ {X : Type 0} (P : X → Type 0) where
  -- one more element, read by its place
  pub none_more : (xs : List X) (i : ℕ) (x : X) → i < length xs → x ≡ get_or xs i x → NoneHas P (take i xs) → (P x → ⊥) → NoneHas P (take (i + 1) xs)
  none_more xs i x l e n q = λ y h p. elim (In-take_more xs i x l h) [
    | inl a ↦ n y a p
    | inr s ↦ q (rw (s, ← e) at p)
  ]

  pub none_at_end : (xs : List X) (i : ℕ) → length xs ≤ i → NoneHas P (take i xs) → NoneHas P xs
  none_at_end xs i l n = subst (λ (ys : List X). NoneHas P ys) (take_all i xs l) n

  first_there : (xs : List X) (i : ℕ) (d : X) → i < length xs → NoneHas P (take i xs) → P (get_or xs i d) → First P xs (get_or xs i d)
  first_there [] i d l n p = absurd (let no : ⊥ = omega arith in no)
  first_there (x ∷ xs) zero d l n p = first p
  first_there (x ∷ xs) (suc i) d l n p = behind (n x here) (first_there xs i d (omega arith) (λ y h q. n y (later h) q) p)

  same_there : (xs : List X) (i : ℕ) (d e : X) → i < length xs → get_or xs i d ≡ get_or xs i e
  same_there [] i d e l = absurd (let no : ⊥ = omega arith in no)
  same_there (x ∷ xs) zero d e l = refl
  same_there (x ∷ xs) (suc i) d e l = same_there xs i d e (omega arith)

  pub first_at : (xs : List X) (i : ℕ) (x : X) → i < length xs → x ≡ get_or xs i x → NoneHas P (take i xs) → P x → IsFirstAt P xs i
  first_at xs i x l e n p = record {
    within = l;
    first = λ d. first_there xs i d l n (subst P (e ∙ same_there xs i x d l) p);
  }

-- an element, read by its place
pub in_there : {X : Type 0} (xs : List X) (i : ℕ) (x : X) → i < length xs → x ≡ get_or xs i x → In x xs
in_there {X} xs i x l e = subst (λ (y : X). In y xs) (sym e) (In-at xs i x l)
