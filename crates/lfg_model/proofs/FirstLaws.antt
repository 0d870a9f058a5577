-- The first of a list with a property is one.
use Rattle.std.proofs.Common.{◌≡◌, ℕ, List, [], ◌∷◌, ◌++◌, refl, sym, ap, ◌∙◌, subst, arith}
use Rattle.lfg_model.specs.Firsts.{First, first, behind}
use Rattle.lfg_model.specs.Lists.{In, here, later}
use Rattle.lfg_model.specs.TemplateRules.{FirstWritten, FirstNamed, NoneHas}
use Rattle.lfg_model.proofs.ListLaws.{In-append_right}
use Rattle.lfg_model.proofs.OneTree.{same_cons}

-- ---- in the order of the list

pub one_first : {X : Type 0} {P : X → Type 0} {xs : List X} {x y : X} → First P xs x → First P xs y → x ≡ y
one_first (first p) (first q) = refl
one_first (first p) (behind n g) = absurd (n p)
one_first (behind n f) (first q) = absurd (n q)
one_first (behind n f) (behind m g) = one_first f g

pub first_in : {X : Type 0} {P : X → Type 0} {xs : List X} {x : X} → First P xs x → In x xs
first_in (first p) = here
first_in (behind n f) = later (first_in f)

pub first_has : {X : Type 0} {P : X → Type 0} {xs : List X} {x : X} → First P xs x → P x
first_has (first p) = p
first_has (behind n f) = first_has f

pub none_first : {X : Type 0} {P : X → Type 0} {xs : List X} {x : X} → NoneHas P xs → First P xs x → ⊥
none_first n f = n _ (first_in f) (first_has f)

-- ---- in written order

-- where two elements stand in one list
data Sides {X : Type 0} (x y : X) (before_x after_x before_y after_y : List X) : Type 0 where
  same_place : x ≡ y → Sides x y before_x after_x before_y after_y
  x_first : In x before_y → In y after_x → Sides x y before_x after_x before_y after_y
  y_first : In y before_x → In x after_y → Sides x y before_x after_x before_y after_y

sides : {X : Type 0} (x y : X) (before_x after_x before_y after_y : List X) → before_x ++ x ∷ after_x ≡ before_y ++ y ∷ after_y → Sides x y before_x after_x before_y after_y
sides x y [] bs [] ds e = same_place (same_cons x y bs ds e).0
sides x y [] bs (c ∷ cs) ds e =
    let p = same_cons x c bs (cs ++ y ∷ ds) e in
    x_first (subst (λ z. In z (c ∷ cs)) (sym p.0) here) (subst (λ zs. In y zs) (sym p.1) (In-append_right cs here))
sides x y (a ∷ ws) bs [] ds e =
    let p = same_cons a y (ws ++ x ∷ bs) ds e in
    y_first (subst (λ z. In z (a ∷ ws)) p.0 here) (subst (λ zs. In x zs) p.1 (In-append_right ws here))
sides x y (a ∷ ws) bs (c ∷ cs) ds e = elim (sides x y ws bs cs ds (same_cons a c (ws ++ x ∷ bs) (cs ++ y ∷ ds) e).1) [
  | same_place s ↦ same_place s
  | x_first i j ↦ x_first (later i) j
  | y_first i j ↦ y_first (later i) j
]

module _ {X : Type 0} (entry : X → ℕ) (P : X → Type 0) (xs : List X) where
  pub one_first_written : (x y : X) → FirstWritten entry P xs x → FirstWritten entry P xs y → x ≡ y
  one_first_written x y f g = elim (sides x y f.front f.back g.front g.back (sym f.is ∙ g.is)) [
    | same_place e ↦ e
    | x_first i j ↦ absurd (let a = g.before x i f.has in let b = f.behind y j g.has in omega arith)
    | y_first i j ↦ absurd (let a = f.before y i g.has in let b = g.behind x j f.has in omega arith)
  ]

  pub first_written_in : (x : X) → FirstWritten entry P xs x → In x xs
  first_written_in x f = subst (λ (zs : List X). In x zs) (sym f.is) (In-append_right f.front here)

  pub none_first_written : (x : X) → NoneHas P xs → FirstWritten entry P xs x → ⊥
  none_first_written x n f = n x (first_written_in x f) f.has

module _ {X : Type 0} (entry : X → ℕ) (naming : X → List ℕ) (P : X → Type 0) (xs : List X) where
  pub one_first_named : (a b : List ℕ) → FirstNamed entry naming P xs a → FirstNamed entry naming P xs b → a ≡ b
  one_first_named a b f g = sym f.named ∙ ap naming (one_first_written entry P xs f.first g.first f.is g.is) ∙ g.named

  pub none_first_named : (a : List ℕ) → NoneHas P xs → FirstNamed entry naming P xs a → ⊥
  none_first_named a n f = none_first_written entry P xs f.first n f.is
