-- A file found by its name.
use Rattle.std.proofs.Common.{◌≡◌, ℕ, suc, ◌<◌, List, [], ◌∷◌, Some, None, Bool, true, false, cond, refl, sym, ap, ◌∙◌, drop, length, get_or}
use Rattle.std.specs.Prelude.{nat_eq}
use Rattle.std.specs.declared.vec.Vec.{Vec}
use Rattle.std.specs.Ordering.{nat_cmp, eq_by_cmp}
use Rattle.std.specs.Cmp.Lexicographic.{slice_cmp, pointwise, texts_ties, nat_list_cmp_total}
use Rattle.std.specs.FinMap as finite
use Rattle.std.specs.FinMap.{get-insert}
use Rattle.std.proofs.Math.Seq.{drop-cons}
use Rattle.lfg_io.specs.MemShelf.{MemShelfState, files_of, found, sure_names, told}
use Rattle.std.specs.List.{Contains}
use Rattle.std.specs.Cmp.{eq_by_cmp_equiv}
use Rattle.std.proofs.Common.{map, zero, arith}

module _ {Z : Type 0} (fs : List (List ℕ × Vec ℕ Z)) (i : ℕ) (d : List ℕ × Vec ℕ Z) (name : List ℕ) (h : i < length fs) where
  next : finite.get (files_of (told (drop i fs))) name ≡ cond (pointwise nat_eq name (get_or fs i d).0) (Some (get_or fs i d).1.items) (finite.get (files_of (told (drop (suc i) fs))) name)
  next =
      ap (λ es. finite.get (files_of (told es)) name) (drop-cons fs i d h)
      ∙ get-insert nat_list_cmp_total (files_of (told (drop (suc i) fs))) (get_or fs i d).0 (get_or fs i d).1.items name
      ∙ ap (λ b. cond b (Some (get_or fs i d).1.items) (finite.get (files_of (told (drop (suc i) fs))) name)) (sym (texts_ties name (get_or fs i d).0))

  pub named : pointwise nat_eq name (get_or fs i d).0 ≡ true → finite.get (files_of (told (drop i fs))) name ≡ Some (get_or fs i d).1.items
  named e = next ∙ ap (λ b. cond b (Some (get_or fs i d).1.items) (finite.get (files_of (told (drop (suc i) fs))) name)) e

  pub passed : pointwise nat_eq name (get_or fs i d).0 ≡ false → finite.get (files_of (told (drop i fs))) name ≡ finite.get (files_of (told (drop (suc i) fs))) name
  passed e = next ∙ ap (λ b. cond b (Some (get_or fs i d).1.items) (finite.get (files_of (told (drop (suc i) fs))) name)) e

-- a name of the list has a file
pub sure_found : (fs : List (List ℕ × List ℕ)) (name : List ℕ) → Contains (map (λ f. f.0) fs) name → finite.get (files_of fs) name ≡ None → ⊥
sure_found [] name h e = let no : h.0 < 0 = h.1 in let bad : ⊥ = omega arith in bad
sure_found (f ∷ fs) name h e = go h.0 h.1 h.2 (λ k. sure_found fs name k)
  where
    step : cond (eq_by_cmp (slice_cmp nat_cmp) name f.0) (Some f.1) (finite.get (files_of fs) name) ≡ None
    step = sym (get-insert nat_list_cmp_total (files_of fs) f.0 f.1 name) ∙ e

    behind : (b : Bool) → cond b (Some f.1) (finite.get (files_of fs) name) ≡ None → finite.get (files_of fs) name ≡ None
    behind true e = cc
    behind false e = e

    here : (x : List ℕ) → x ≡ name → eq_by_cmp (slice_cmp nat_cmp) name x ≡ true
    here x at = ap (eq_by_cmp (slice_cmp nat_cmp) name) at ∙ (eq_by_cmp_equiv nat_list_cmp_total).refl name

    go : (k : ℕ) → k < suc (length (map (λ g. g.0) fs)) → get_or (map (λ g. g.0) (f ∷ fs)) k name ≡ name →
        (Contains (map (λ g. g.0) fs) name → finite.get (files_of fs) name ≡ None → ⊥) → ⊥
    go zero l at rest =
        let no : Some f.1 ≡ None = sym (ap (λ b. cond b (Some f.1) (finite.get (files_of fs) name)) (here f.0 at)) ∙ step in cc
    go (suc k) l at rest = rest (k, omega arith, at) (behind (eq_by_cmp (slice_cmp nat_cmp) name f.0) step)

-- only a shelf that lists no call has sure names, which are those of its files
pub sure_names_of : (calls : List ℕ) (fs : List (List ℕ × List ℕ)) (name : List ℕ) → Contains (sure_names calls fs) name → (calls ≡ []) × Contains (map (λ f. f.0) fs) name
sure_names_of [] fs name h = (refl, h)
sure_names_of (call ∷ calls) fs name h = let no : h.0 < 0 = h.1 in let bad : ⊥ = omega arith in absurd bad

-- a sure name is found at the next call
pub sure_is_found : (shelf : MemShelfState) (name : List ℕ) → Contains (sure_names shelf.fails shelf.files) name → found shelf name ≡ None → ⊥
sure_is_found shelf name h none =
    let sure = sure_names_of shelf.fails shelf.files name h in
    let got : finite.get (files_of shelf.files) name ≡ None = simp sure.0 at none in
    sure_found shelf.files name sure.1 got
