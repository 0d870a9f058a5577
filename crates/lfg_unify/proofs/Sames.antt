-- Lists of names that compare as equal are equal.
use Rattle.std.proofs.Common.{◌≡◌, ℕ, true, IsTrue, List, [], ◌∷◌, refl, sym, subst}
use Rattle.std.specs.Prelude.{◌↔◌, ◌==◌}
use Rattle.std.specs.Cmp.Lexicographic.{pointwise, same_text}
use Rattle.std.proofs.lemmas.Bool.{and_parts, and_from}
use Rattle.std.proofs.lemmas.Cmp.{nat_list_eq_equiv}
use Rattle.lfg_terms.proofs.Ties.{edge_eq_same}

names_same : (xs ys : List (List ℕ)) → pointwise (pointwise ◌==◌) xs ys ≡ true → xs ≡ ys
names_same [] [] h = refl
names_same [] (y ∷ ys) h = cc
names_same (x ∷ xs) [] h = cc
names_same (x ∷ xs) (y ∷ ys) h =
    let p = and_parts _ _ h in
    let e : x ≡ y = same_text x y (sym p.0) in
    let r : xs ≡ ys = names_same xs ys p.1 in
    λ i. e i ∷ r i

names_itself : (xs : List (List ℕ)) → pointwise (pointwise ◌==◌) xs xs ≡ true
names_itself [] = refl
names_itself (x ∷ xs) = and_from _ _ (nat_list_eq_equiv.refl x) (names_itself xs)

pub names_tell : (xs ys : List (List ℕ)) → IsTrue (pointwise (pointwise ◌==◌) xs ys) ↔ (xs ≡ ys)
names_tell xs ys = (names_same xs ys, λ e. subst (λ (zs : List (List ℕ)). pointwise (pointwise ◌==◌) xs zs ≡ true) e (names_itself xs))

pub ruleset sames = (names_tell, edge_eq_same)
