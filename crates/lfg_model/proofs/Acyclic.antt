-- A relation without cycles over finitely many things comes to an end.
use Rattle.std.proofs.Common.{◌≡◌, ℕ, zero, suc, ◌+◌, ◌<◌, ◌≤◌, List, [], ◌∷◌, length, refl, sym, ◌∙◌, subst, arith, inl, inr, ◌⊎◌}
use Rattle.lfg_model.specs.Lists.{In, Once, none, more}
use Rattle.lfg_model.specs.Grounded.{Chain, link, links}
use Rattle.lfg_model.proofs.ListLaws.{In-cons_cases, In-nil, length-le_from_Once}

-- all that is below x by R comes to an end
pub data Acc {X : Type 0} (R : X → X → Type 0) : X → Type 0 where
  acc : {x : X} → ((y : X) → R y x → Acc R y) → Acc R x

module _ {X : Type 0} (R : X → X → Type 0) where
  -- one more step at the lower end
  chain_end : {z y x : X} → Chain R y x → R z y → Chain R z x
  chain_end (link r) s = links r (link s)
  chain_end (links r c) s = links r (chain_end c s)

  module _ (xs : List X) (all : (y x : X) → R y x → In x xs) (acyclic : (x : X) → ¬ Chain R x x) where
    -- the things above x on a way down are all different
    down : (n : ℕ) (x : X) (path : List X) → Once path → ((p : X) → In p path → In p xs × Chain R x p) → length xs ≤ length path + n → Acc R x
    down zero x path o above l = acc (λ y r. absurd (
        let fits = length-le_from_Once (x ∷ path) xs (more (λ i. acyclic x (above x i).1) o) (λ z i. elim (In-cons_cases i) [
          | inl e ↦ (let P : X → Type 0 = λ w. In w xs in subst P (sym e) (all y x r))
          | inr j ↦ (above z j).0
        ]) in
        let never : ⊥ = omega (arith, fits) in never))
    down (suc n) x path o above l = acc (λ y r. down n y (x ∷ path) (more (λ i. acyclic x (above x i).1) o)
        (λ p i. elim (In-cons_cases i) [
          | inl e ↦ (let P : X → Type 0 = λ w. In w xs × Chain R y w in subst P (sym e) (all y x r, link r))
          | inr j ↦ ((above p j).0, chain_end (above p j).1 r)
        ])
        (omega arith))

    pub acc_of : (x : X) → Acc R x
    acc_of x = down (length xs) x [] none (λ p i. In-nil i) (omega arith)

  lower : {x : X} → Acc (Chain R) x → (z : X) → Chain R z x → Acc (Chain R) z
  lower (acc h) z c = h z c

  acc_chain : {x : X} → Acc R x → Acc (Chain R) x
  acc_chain (acc h) = acc (λ z c. by_link z c (λ y r. acc_chain (h y r)))
    where
      by_link : {x : X} (z : X) → Chain R z x → ((y : X) → R y x → Acc (Chain R) y) → Acc (Chain R) z
      by_link z (link r) f = f z r
      by_link z (links {y = y} r c) f = lower (f y r) z c

  no_self : {x : X} → Acc (Chain R) x → ¬ Chain R x x
  no_self {x} (acc h) c = no_self (h x c) c

  pub no_cycle : {x : X} → Acc R x → ¬ Chain R x x
  no_cycle a c = no_self (acc_chain a) c

-- by a number first, and then by what comes to an end
abbrev pub NumberFirst : {X Y : Type 0} → (X → ℕ) → (X → Y) → (Y → Y → Type 0) → X → X → Type 0
NumberFirst f g R y x = (f y < f x) ⊎ ((f y ≡ f x) × R (g y) (g x))

module _ {X Y : Type 0} (f : X → ℕ) (g : X → Y) (R : Y → Y → Type 0) (ends : (y : Y) → Acc R y) where
  inner : (n : ℕ) → ((x : X) → f x < n → Acc (NumberFirst f g R) x) → {y : Y} → Acc R y → (x : X) → f x ≡ n → g x ≡ y → Acc (NumberFirst f g R) x
  inner n low {y} (acc h) x ex ey = acc (λ z l. elim l [
    | inl less ↦ (let k : f z < f x = less in low z (omega (arith, k, ex)))
    | inr both ↦ inner n low (h (g z) (let P : Y → Type 0 = λ w. R (g z) w in subst P ey both.1)) z (both.0 ∙ ex) refl
  ])

  outer : (n : ℕ) (x : X) → f x < n → Acc (NumberFirst f g R) x
  outer zero x l = absurd (omega arith)
  outer (suc n) x l = inner (f x) (λ z k. outer n z (omega arith)) (ends (g x)) x refl refl

  pub lex_acc : (x : X) → Acc (NumberFirst f g R) x
  lex_acc x = outer (suc (f x)) x (omega arith)
