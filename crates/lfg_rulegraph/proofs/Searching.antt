-- A binary search finds exactly the members of a list that ascends.
use Rattle.std.proofs.Common.{◌≡◌, ℕ, ◌<◌, ◌≤◌, IsTrue, Result, Ok, Err, Some, zero, suc, ◌-◌, ap, List, length, get_or, refl, sym, subst, ◌∙◌, inl, inr, ◌⊎◌, arith}
use Rattle.std.specs.Prelude.{◌↔◌, slice_get}
use Rattle.std.proofs.lemmas.Option.{slice_get-get_or}
use Rattle.std.specs.Ordering.{nat_cmp}
use Rattle.std.specs.Result.{is_ok}
use Rattle.std.specs.List.Sorted.{IsBinarySearchResult, IsStrictlySortedBy}
use Rattle.std.proofs.lemmas.List.Sorted.{searched}
use Rattle.std.proofs.lemmas.Map.Keys.{below_from_sorted}
use Rattle.lfg_terms.specs.declared.grammar.Graph.{Graph}
use Rattle.lfg_model.specs.Derive.{CanFollow}
use Rattle.lfg_model.specs.Graphs.{IsGraph}
use Rattle.lfg_model.specs.Lists.{In}
use Rattle.lfg_model.proofs.ListLaws.{In-at, In-place}
use Rattle.lfg_model.proofs.OneTree.{same_some}

rises : (xs : List ℕ) → IsStrictlySortedBy nat_cmp xs → (i j : ℕ) → i ≤ j → j < length xs → get_or xs i 0 ≤ get_or xs j 0
rises xs s i j l m = elim (le_cases i j l) [ inl h ↦ omega (arith, below_from_sorted xs i j 0 s h m) | inr e ↦ rw e (omega arith) ]
  where
    le_cases : (i j : ℕ) → i ≤ j → (i < j) ⊎ (i ≡ j)
    le_cases i j l = grind arith

sides : (n i : ℕ) → (n < i) ⊎ (i ≤ n)
sides n i = grind arith

pub search_exact : (xs : List ℕ) (x : ℕ) (r : Result ℕ ℕ) → IsStrictlySortedBy nat_cmp xs → IsBinarySearchResult (λ y. nat_cmp y x) xs r → IsTrue (is_ok r) ↔ In x xs
search_exact xs x (Ok i) s f =
    let m = searched xs x (Ok i) f (rises xs s) in
    ((λ t. subst (λ (n : ℕ). In n xs) m.1 (In-at xs i 0 m.0)), (λ i. refl))
search_exact xs x (Err i) s f =
    let m = searched xs x (Err i) f (rises xs s) in (
      (λ t. cc),
      (λ h.
          let p = In-place h in
          absurd (elim (sides p.0 i) [ inl l ↦ omega (arith, m.1 p.0 l, p.2 0) | inr l ↦ omega (arith, m.2 p.0 l p.1, p.2 0) ])),
    )

-- ---- the lists of a graph

pub list_at : (xs ys : List (List ℕ)) (i : ℕ) (x y : List ℕ) → y ≡ x → x ≡ get_or ys i x → ys ≡ xs → y ≡ get_or xs i y
list_at xs ys i x y e f h = e ∙ f ∙ ap (λ (zs : List (List ℕ)). get_or zs i x) h ∙ ap (λ (z : List ℕ). get_or xs i z) (sym e)

pub followers_ascend : (g : Graph) (q : ℕ) (ps : List ℕ) → IsGraph g → 1 ≤ q → q ≤ g.size → ps ≡ get_or g.next (q - 1) ps → IsStrictlySortedBy nat_cmp ps
followers_ascend g q ps f l m e =
    let i : q - 1 < length g.next = omega (arith, f.next) in
    (f.follow ps (subst (λ (v : List ℕ). In v g.next) (sym e) (In-at g.next (q - 1) ps i))).ascend

pub followers_exact : (g : Graph) (q p : ℕ) (ps : List ℕ) → IsGraph g → 1 ≤ q → q ≤ g.size → ps ≡ get_or g.next (q - 1) ps → CanFollow g q p ↔ In p ps
followers_exact g zero p ps f l m e = absurd (omega arith)
followers_exact g (suc k) p ps f l m e =
    let n : suc k - 1 ≡ k = omega arith in
    let i : k < length g.next = omega (arith, f.next) in
    let at : slice_get g.next k ≡ Some ps = slice_get-get_or g.next k ps i ∙ ap (λ (v : List ℕ). Some v) (sym (e ∙ ap (λ (j : ℕ). get_or g.next j ps) n)) in
    ((λ h. subst (λ (v : List ℕ). In p v) (same_some h.0 ps (sym h.1 ∙ at)) h.2), (λ h. (ps, at, h)))
