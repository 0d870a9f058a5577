-- Two sets are equal, or some assignment tells them apart.
use Rattle.std.proofs.Common.{◌≡◌, ◌≢◌, ℕ, zero, suc, ◌+◌, ◌<◌, ◌≤◌, ◌⊎◌, inl, inr, true, false, List, [], ◌∷◌, length, refl, sym, ◌∙◌, ap, arith}
use Rattle.lfg_context.specs.Cubes.{in_cubes, set_at, glued, child_of, AllOf, IsTest, IsProper}
use Rattle.lfg_context.proofs.Canonical.{Cubes, AllOf-child, reads_from, child_members}

-- some assignment is in one of the two and not in the other
abbrev pub Differ : Cubes → Cubes → Type 0
Differ x y = (a : ℕ → ℕ) × (in_cubes x a ≢ in_cubes y a)

abbrev pub Told : Cubes → Cubes → Type 0
Told x y = (x ≡ y) ⊎ Differ x y

flipped : (x y : Cubes) → Told x y → Told y x
flipped x y (inl e) = inl (sym e)
flipped x y (inr d) = inr (d.0, λ e. d.1 (sym e))

-- the children in order, up to the first two that differ
children_told : (ks ls : List Cubes) → length ks ≡ length ls → ((i : ℕ) → i < length ks → Told (child_of ks i) (child_of ls i))
    → (ks ≡ ls) ⊎ ((i : ℕ) × (i < length ks) × Differ (child_of ks i) (child_of ls i))
children_told [] [] e each = inl refl
children_told [] (y ∷ ys) e each = absurd (omega arith)
children_told (x ∷ xs) [] e each = absurd (omega arith)
children_told (x ∷ xs) (y ∷ ys) e each = elim (each 0 (omega arith)) [
  | inr d ↦ inr (0, (omega arith), d)
  | inl head ↦
      let same : x ≡ y = head in
      elim (children_told xs ys (omega arith) (λ i h. each (suc i) (omega arith))) [
        | inl rest ↦ inl (ap (λ v. v ∷ xs) same ∙ ap (λ v. y ∷ v) rest)
        | inr d ↦ inr (suc d.0, (let h = d.1 in omega arith), d.2)
      ]
]

-- the children against one set
child_told : (ks : List Cubes) (u : Cubes) → ((i : ℕ) → i < length ks → Told (child_of ks i) u) → AllOf (λ k. k ≡ u) ks ⊎ ((i : ℕ) × (i < length ks) × Differ (child_of ks i) u)
child_told [] u each = inl tt
child_told (x ∷ xs) u each = elim (each 0 (omega arith)) [
  | inr d ↦ inr (0, (omega arith), d)
  | inl head ↦ elim (child_told xs u (λ i h. each (suc i) (omega arith))) [
    | inl rest ↦ inl (head, rest)
    | inr d ↦ inr (suc d.0, (let h = d.1 in omega arith), d.2)
  ]
]

abbrev Tells : (ℕ → ℕ) → ℕ → ℕ → Type 0
Tells ar d n = (x y : Cubes) → IsProper ar d n x → IsProper ar d n y → Told x y

skip_told : (ar : ℕ → ℕ) (d n : ℕ) (u v : Cubes) → Tells ar d (n + 1) → IsProper ar d (n + 1) u → ((ks : List Cubes) × IsTest ar (IsProper ar d (n + 1)) n v ks) → Told u v
skip_told ar d n u v tell skips tests = elim (child_told ks u (λ i h. tell (child_of ks i) u (AllOf-child (IsProper ar d (n + 1)) ks i h t.3) skips)) [
  | inl all ↦ absurd (t.4 u all)
  | inr d' ↦ inr (
    set_at d'.2.0 n d'.0,
    λ e. d'.2.1 (
        child_members ar d n v ks d'.0 d'.2.0 t d'.1 ∙ sym e ∙ reads_from ar d (n + 1) u (set_at d'.2.0 n d'.0) d'.2.0 skips (λ c below. other d'.2.0 c d'.0 below)),
  )
]
  where
    ks : List Cubes
    ks = tests.0

    t : IsTest ar (IsProper ar d (n + 1)) n v ks
    t = tests.1

    other : (a : ℕ → ℕ) (c k : ℕ) → n + 1 ≤ c → set_at a n k c ≡ a c
    other a c k h = grind arith

test_told : (ar : ℕ → ℕ) (d n : ℕ) (x y : Cubes) → Tells ar d (n + 1) → ((ks : List Cubes) × IsTest ar (IsProper ar d (n + 1)) n x ks) → ((ks : List Cubes) × IsTest ar (IsProper ar d (n + 1)) n y ks) → Told x y
test_told ar d n x y tell xt yt =
    let ks = xt.0 in
    let ls = yt.0 in
    let len_k : length ks ≡ ar n = xt.1.1 in
    let len_l : length ls ≡ ar n = yt.1.1 in
    let lens : length ks ≡ length ls = omega arith in
    elim (children_told ks ls lens (λ i h. tell (child_of ks i) (child_of ls i) (AllOf-child (IsProper ar d (n + 1)) ks i h xt.1.3) (AllOf-child (IsProper ar d (n + 1)) ls i (omega arith) yt.1.3))) [
      | inl e ↦ inl (xt.1.0 ∙ ap (λ v. glued n (ar n) 0 v) e ∙ sym yt.1.0)
      | inr d' ↦ inr (
        set_at d'.2.0 n d'.0,
        λ e. d'.2.1 (
            child_members ar d n x ks d'.0 d'.2.0 xt.1 d'.1 ∙ e ∙ sym (child_members ar d n y ls d'.0 d'.2.0 yt.1 (let h = d'.1 in omega arith))),
      )
    ]

pub told : (ar : ℕ → ℕ) (d n : ℕ) → Tells ar d n
told ar zero n x y p q = elim p [
  | inl x_none ↦ elim q [
    | inl y_none ↦ inl (x_none ∙ sym y_none)
    | inr y_full ↦ inr ((λ _. 0), λ e. let bad : false ≡ true = sym (ap (λ v. in_cubes v (λ _. 0)) x_none) ∙ e ∙ ap (λ v. in_cubes v (λ _. 0)) y_full in absurd (cc))
  ]
  | inr x_full ↦ elim q [
    | inr y_full ↦ inl (x_full ∙ sym y_full)
    | inl y_none ↦ inr ((λ _. 0), λ e. let bad : true ≡ false = sym (ap (λ v. in_cubes v (λ _. 0)) x_full) ∙ e ∙ ap (λ v. in_cubes v (λ _. 0)) y_none in absurd (cc))
  ]
]
told ar (suc d) n x y p q = elim p [
  | inl x_skips ↦ elim q [
    | inl y_skips ↦ told ar d (n + 1) x y x_skips y_skips
    | inr y_tests ↦ skip_told ar d n x y (λ u v. told ar d (n + 1) u v) x_skips y_tests
  ]
  | inr x_tests ↦ elim q [
    | inl y_skips ↦ flipped y x (skip_told ar d n y x (λ u v. told ar d (n + 1) u v) y_skips x_tests)
    | inr y_tests ↦ test_told ar d n x y (λ u v. told ar d (n + 1) u v) x_tests y_tests
  ]
]
