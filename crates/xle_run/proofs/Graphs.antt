-- How the graph of a row of items is built, item by item.
use Rattle.std.proofs.Common.{◌≡◌, ℕ, suc, ◌+◌, ◌-◌, ◌<◌, ◌≤◌, Bool, true, false, List, [], ◌∷◌, ◌++◌, ap, sym, ◌∙◌, arith, append_assoc}
use Rattle.lfg_model.specs.Thin.{next_from, last_of}

pub next_start : (size : ℕ) → 0 < size → next_from 1 (suc (size - 1)) ≡ next_from 1 size
next_start size l = ap (next_from 1) (let e : suc (size - 1) ≡ size = omega arith in e)

pub next_on : (all had new : List (List ℕ)) (k size : ℕ) → k < size → had ++ next_from k (suc (size - k)) ≡ all → new ≡ had ++ ((k + 1) ∷ []) ∷ [] → new ++ next_from (k + 1) (suc (size - (k + 1))) ≡ all
next_on all had new k size l e grew =
    let left : size - k ≡ suc (size - (k + 1)) = omega arith in
    let up : k + 1 ≡ suc k = omega arith in
    ap (λ (us : List (List ℕ)). us ++ next_from (k + 1) (suc (size - (k + 1)))) grew
    ∙ append_assoc had (((k + 1) ∷ []) ∷ []) (next_from (k + 1) (suc (size - (k + 1))))
    ∙ ap (λ (n : ℕ). had ++ (n ∷ []) ∷ next_from n (suc (size - (k + 1)))) up
    ∙ sym (ap (λ (n : ℕ). had ++ next_from k (suc n)) left) ∙ e

pub next_end : (all had new : List (List ℕ)) (k size : ℕ) → size ≤ k → had ++ next_from k (suc (size - k)) ≡ all → new ≡ had ++ [] ∷ [] → new ≡ all
next_end all had new k size l e grew =
    let none : 0 ≡ size - k = omega arith in
    grew ∙ ap (λ (n : ℕ). had ++ next_from k (suc n)) none ∙ e

pub last_start : (size : ℕ) → 0 < size → last_of (suc (size - 1)) ≡ last_of size
last_start size l = ap last_of (let e : suc (size - 1) ≡ size = omega arith in e)

pub last_on : (all had new : List Bool) (k size : ℕ) → k < size → had ++ last_of (suc (size - k)) ≡ all → new ≡ had ++ false ∷ [] → new ++ last_of (suc (size - (k + 1))) ≡ all
last_on all had new k size l e grew =
    let left : size - k ≡ suc (size - (k + 1)) = omega arith in
    ap (λ (us : List Bool). us ++ last_of (suc (size - (k + 1)))) grew
    ∙ append_assoc had (false ∷ []) (last_of (suc (size - (k + 1))))
    ∙ sym (ap (λ (n : ℕ). had ++ last_of (suc n)) left) ∙ e

pub last_end : (all had new : List Bool) (k size : ℕ) → size ≤ k → had ++ last_of (suc (size - k)) ≡ all → new ≡ had ++ true ∷ [] → new ≡ all
last_end all had new k size l e grew =
    let none : 0 ≡ size - k = omega arith in
    grew ∙ ap (λ (n : ℕ). had ++ last_of (suc n)) none ∙ e
