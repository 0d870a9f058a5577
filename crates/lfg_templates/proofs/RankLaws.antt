-- Ranks that fall or rise leave no cycle.
use Rattle.std.proofs.Common.{◌≡◌, ℕ, zero, suc, ◌+◌, ◌<◌, List, [], ◌∷◌, length, map, take, get_or, Vec, Global, sym, ap, ◌∙◌, subst, arith, inl, inr, ◌⊎◌, refl}
use Rattle.std.proofs.lemmas.Bool.{cases_lt}
use Rattle.lfg_model.specs.Lists.{In}
use Rattle.lfg_model.proofs.ListLaws.{In-take_more, In-nil}
use Rattle.lfg_templates.specs.Graphs.{row_at, Walks, step, further}
use Rattle.lfg_templates.specs.Ranks.{rank_of, RanksBelow, RanksFall, RanksRise}

falls : (rows : List (List ℕ)) (ranks : List ℕ) → RanksFall rows ranks → {i j : ℕ} → Walks rows i j → 0 < rank_of ranks i → RanksBelow ranks (rank_of ranks i) j
falls rows ranks f (step {i} {j} h) l = f.each i j h l
falls rows ranks f (further {i} {j} {k} w h) l =
    let p = falls rows ranks f w l in
    let q = f.each j k h p.0 in
    let a = p.1 in
    let b = q.1 in
    (q.0, omega arith)

pub fallen_is_on_no_cycle : (rows : List (List ℕ)) (ranks : List ℕ) (i : ℕ) → RanksFall rows ranks → 0 < rank_of ranks i → ¬ Walks rows i i
fallen_is_on_no_cycle rows ranks i f l w = let p = falls rows ranks f w l in let q = p.1 in omega arith

rises : (rows : List (List ℕ)) (ranks : List ℕ) → RanksRise rows ranks → {i j : ℕ} → Walks rows i j → 0 < rank_of ranks j → RanksBelow ranks (rank_of ranks j) i
rises rows ranks f (step {i} {j} h) l = f.each i j h l
rises rows ranks f (further {i} {j} {k} w h) l =
    let p = f.each j k h l in
    let q = rises rows ranks f w p.0 in
    let a = p.1 in
    let b = q.1 in
    (q.0, omega arith)

pub risen_is_on_no_cycle : (rows : List (List ℕ)) (ranks : List ℕ) (i : ℕ) → RanksRise rows ranks → 0 < rank_of ranks i → ¬ Walks rows i i
risen_is_on_no_cycle rows ranks i f l w = let p = rises rows ranks f w l in let q = p.1 in omega arith

-- ---- one more place of a row, and one more row

-- a fact of each place of the row, for one place more
pub row_more : (P : ℕ → Type 0) (row : List ℕ) (n : ℕ) → n < length row → ((j : ℕ) → In j (take n row) → P j) → P (get_or row n 0) → (j : ℕ) → In j (take (n + 1) row) → P j
row_more P row n l h p j i = elim (In-take_more row n 0 l i) [ inl a ↦ h j a | inr e ↦ subst P (sym e) p ]

row_is : (rows : List (Vec ℕ Global)) (i : ℕ) (v : Vec ℕ Global) → i < length rows → v ≡ get_or rows i v → row_at (map (λ r. r.items) rows) i ≡ v.items
row_is [] i v l e = absurd (let no : ⊥ = omega arith in no)
row_is (r ∷ rows) zero v l e = ap (λ (x : Vec ℕ Global). x.items) (sym e)
row_is (r ∷ rows) (suc i) v l e = row_is rows i v (omega arith) e

pub has_row : (rows : List (Vec ℕ Global)) (i j : ℕ) → In j (row_at (map (λ r. r.items) rows) i) → i < length rows
has_row [] i j h = In-nil h
has_row (r ∷ rows) zero j h = omega arith
has_row (r ∷ rows) (suc i) j h = let l = has_row rows i j h in omega arith

last_or_before : (i n : ℕ) → i < n + 1 → (i < n) ⊎ (i ≡ n)
last_or_before i n l = elim (cases_lt i n) [ inl a ↦ inl a | inr b ↦ inr (omega arith) ]

-- a fact of each link of the rows so far, for one row more
pub rows_more : (P : ℕ → ℕ → Type 0) (rows : List (Vec ℕ Global)) (n : ℕ) (v : Vec ℕ Global) → n < length rows → v ≡ get_or rows n v
    → ((i j : ℕ) → i < n → In j (row_at (map (λ r. r.items) rows) i) → P i j) → ((j : ℕ) → In j v.items → P n j)
    → (i j : ℕ) → i < n + 1 → In j (row_at (map (λ r. r.items) rows) i) → P i j
rows_more P rows n v l e h g i j k a = elim (last_or_before i n k) [
  | inl b ↦ h i j b a
  | inr f ↦ subst (λ (x : ℕ). P x j) (sym f) (g j (subst (λ (xs : List ℕ). In j xs) (row_is rows n v l e) (subst (λ (x : ℕ). In j (row_at (map (λ r. r.items) rows) x)) f a)))
]
