-- Searches through lists.
use Rattle.std.proofs.Common.{◌≡◌, ℕ, ◌+◌, ◌<◌, ◌≤◌, Bool, true, false, IsTrue, List, [], length, take, get_or, refl, sym, subst, ◌∙◌, inl, inr}
use Rattle.std.specs.Prelude.{◌↔◌}
use Rattle.std.proofs.lemmas.Bool.{false≢true}
use Rattle.std.proofs.lemmas.List.{get_or_default}
use Rattle.lfg_model.specs.Lists.{In}
use Rattle.lfg_model.proofs.ListLaws.{In-nil, In-take_more}
use Rattle.lfg_solve.specs.Found.{SomeOf, EachOf}
use Rattle.lfg_solve.proofs.Dividing.{In-read}
use Rattle.lfg_solve.proofs.Prefixes.{take_whole}

pub record NoneOf {X : Type 0} (P : X → Type 0) (xs : List X) : Type 0 where
  pub each : (x : X) → In x xs → ¬ P x

pub not_so : (r : Bool) (Q : Type 0) → (IsTrue r ↔ Q) → r ≡ false → ¬ Q
not_so r Q t f q = false≢true (sym f ∙ t.1 q)

module _ {X : Type 0} (P : X → Type 0) where
  pub NoneOf-none : NoneOf P []
  NoneOf-none = record { each = λ x i. In-nil i }

  pub NoneOf-read : (xs : List X) (k : ℕ) (x : X) → k < length xs → x ≡ get_or xs k x → NoneOf P (take k xs) → ¬ P x → NoneOf P (take (k + 1) xs)
  NoneOf-read xs k x l e h n = record {
    each = λ y i p. elim (In-take_more xs k x l i) [ inl a ↦ h.each y a p | inr f ↦ n (subst P (f ∙ sym e) p) ];
  }

  pub some_found : (xs : List X) (k : ℕ) (x : X) → k < length xs → x ≡ get_or xs k x → P x → IsTrue true ↔ SomeOf P xs
  some_found xs k x l e p = (λ t. record { at = x; listed = In-read xs k x l e; holds = p }, λ s. refl)

  pub none_found : (xs : List X) (k : ℕ) → length xs ≤ k → NoneOf P (take k xs) → IsTrue false ↔ SomeOf P xs
  none_found xs k l n = (λ t. absurd (false≢true t), λ s. absurd (n.each s.at (rw (take_whole k xs l) s.listed) s.holds))

  pub EachOf-none : EachOf P []
  EachOf-none = record { each = λ x i. In-nil i }

  pub EachOf-read : (xs : List X) (k : ℕ) (x : X) → k < length xs → x ≡ get_or xs k x → EachOf P (take k xs) → P x → EachOf P (take (k + 1) xs)
  EachOf-read xs k x l e h p = record {
    each = λ y i. elim (In-take_more xs k x l i) [ inl a ↦ h.each y a | inr f ↦ subst P (e ∙ sym f) p ];
  }

  pub each_found : (xs : List X) (k : ℕ) → length xs ≤ k → EachOf P (take k xs) → IsTrue true ↔ EachOf P xs
  each_found xs k l h = (λ t. rw (take_whole k xs l) at h, λ s. refl)

  pub one_fails : (xs : List X) (k : ℕ) (x : X) → k < length xs → x ≡ get_or xs k x → ¬ P x → IsTrue false ↔ EachOf P xs
  one_fails xs k x l e n = (λ t. absurd (false≢true t), λ h. absurd (n (h.each x (In-read xs k x l e))))

-- an element that is read with a default
pub get_or-again : {X : Type 0} (xs : List X) (k : ℕ) (d : X) → k < length xs → get_or xs k d ≡ get_or xs k (get_or xs k d)
get_or-again xs k d l = get_or_default xs k d (get_or xs k d) l

pub among_found : {X : Type 0} (xs : List X) (k : ℕ) (x z : X) → k < length xs → x ≡ get_or xs k x → x ≡ z → IsTrue true ↔ In z xs
among_found xs k x z l e f = (λ t. subst (λ y. In y xs) f (In-read xs k x l e), λ i. refl)

pub among_none : {X : Type 0} (xs : List X) (k : ℕ) (z : X) → length xs ≤ k → NoneOf (λ y. y ≡ z) (take k xs) → IsTrue false ↔ In z xs
among_none xs k z l n = (λ t. absurd (false≢true t), λ i. absurd (n.each z (rw (take_whole k xs l) i) refl))
