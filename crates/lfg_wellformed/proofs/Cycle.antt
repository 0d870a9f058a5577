-- Where each element of a finite list has a next one, there is a cycle.
use Rattle.std.proofs.Common.{◌≡◌, ◌≢◌, ℕ, zero, suc, ◌<◌, ◌≤◌, ◌+◌, ◌⊎◌, inl, inr, List, [], ◌∷◌, length, subst, sym, ap, refl, arith}
use Rattle.lfg_model.specs.Lists.{In, here, later, Once, none, more}
use Rattle.lfg_model.proofs.ListLaws.{In-cons_cases, In-nil, length-le_from_Once}

-- the numbers below n
up_to : ℕ → List ℕ
up_to zero = []
up_to (suc n) = n ∷ up_to n

up_to-length : (n : ℕ) → length (up_to n) ≡ n
unfolding up_to
up_to-length zero = refl
up_to-length (suc n) = ap suc (up_to-length n)

up_to-in : (n i : ℕ) → i < n → In i (up_to n)
unfolding up_to
up_to-in zero i h = absurd (omega arith)
up_to-in (suc n) i h = by_case (cases i n h) (λ l. up_to-in n i l)
  where
    cases : (x y : ℕ) → x < suc y → (x < y) ⊎ (x ≡ y)
    cases x y l = grind arith

    by_case : (i < n) ⊎ (i ≡ n) → (i < n → In i (up_to n)) → In i (n ∷ up_to n)
    by_case (inl l) f = later (f l)
    by_case (inr e) f = let P : ℕ → Type 0 = λ v. In v (n ∷ up_to n) in subst P (sym e) here

in_or_not : (i : ℕ) (xs : List ℕ) → In i xs ⊎ (In i xs → ⊥)
in_or_not i [] = inr (λ h. In-nil h)
in_or_not i (x ∷ xs) = by_case (nat_cases i x) (in_or_not i xs)
  where
    nat_cases : (m n : ℕ) → (m ≡ n) ⊎ (m ≢ n)
    nat_cases m n = grind arith

    by_case : (i ≡ x) ⊎ (i ≢ x) → In i xs ⊎ (In i xs → ⊥) → In i (x ∷ xs) ⊎ (In i (x ∷ xs) → ⊥)
    by_case (inl e) h = inl (let P : ℕ → Type 0 = λ v. In v (x ∷ xs) in subst P (sym e) here)
    by_case (inr n) (inl h) = inl (later h)
    by_case (inr n) (inr m) = inr (λ h. elim (In-cons_cases h) [ inl e ↦ n e | inr j ↦ m j ])

module _ (Step : ℕ → ℕ → Type 0) where
  -- one or more steps
  pub data Reach : ℕ → ℕ → Type 0 where
    one : {i j : ℕ} → Step i j → Reach i j
    then' : {i j k : ℕ} → Reach i j → Step j k → Reach i k

  module _ (n : ℕ) (Alive : ℕ → ℕ → Type 0) (within : (r i : ℕ) → Alive r i → i < n) (next : (r i : ℕ) → Alive (suc r) i → (j : ℕ) × Step i j × Alive r j) where
    -- the visited ones are different and reach the current one
    go : (room : ℕ) (seen : List ℕ) (i : ℕ) → n ≤ room + length seen → Once seen → ((k : ℕ) → In k seen → (k < n) × Reach k i) → Alive room i → (k : ℕ) × Reach k k
    go zero seen i h once all alive = elim (in_or_not i seen) [
      | inl j ↦ (i, (all i j).1)
      | inr new ↦ (let le = length-le_from_Once (i ∷ seen) (up_to n) (more new once)
          (λ k j. elim (In-cons_cases j) [ inl e ↦ (let P : ℕ → Type 0 = λ v. In v (up_to n) in subst P (sym e) (up_to-in n i (within zero i alive))) | inr l ↦ up_to-in n k (all k l).0 ]) in
          absurd (omega (arith, le, up_to-length n, h)))
    ]
    go (suc room) seen i h once all alive = elim (in_or_not i seen) [
      | inl j ↦ (i, (all i j).1)
      | inr new ↦ (let s = next room i alive in
          go room (i ∷ seen) s.0 (omega arith) (more new once)
          (λ k j. elim (In-cons_cases j) [
            | inl e ↦ (let P : ℕ → Type 0 = λ v. (v < n) × Reach v s.0 in subst P (sym e) (within (suc room) i alive, one s.1))
            | inr l ↦ ((all k l).0, then' (all k l).1 s.1)
          ]) s.2)
    ]

    pub cycle : (i : ℕ) → Alive n i → (k : ℕ) × Reach k k
    cycle i alive = go n [] i (omega arith) none (λ k j. In-nil j) alive
