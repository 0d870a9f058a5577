-- The test whether two names are equal.
use Rattle.std.proofs.Common.{◌≡◌, Bool, true, false, [], ◌∷◌, ◌==◌, ◌&&◌, refl}
use Rattle.std.proofs.lemmas.Bool.{eqb-true, eq-eqb}
use Rattle.std.specs.Cmp.Lexicographic.{pointwise}
use Rattle.lfg_model.specs.Terms.{Name, same_name}

and_true : (b c : Bool) → (b && c) ≡ true → (b ≡ true) × (c ≡ true)
and_true true c e = (refl, e)
and_true false c e = absurd (let no : ⊥ = cc in no)

pub equal_from_same : (xs ys : Name) → same_name xs ys ≡ true → xs ≡ ys
equal_from_same [] [] e = refl
equal_from_same [] (y ∷ ys) e = absurd (let no : ⊥ = cc in no)
equal_from_same (x ∷ xs) [] e = absurd (let no : ⊥ = cc in no)
equal_from_same (x ∷ xs) (y ∷ ys) e =
    let p = and_true (x == y) (pointwise ◌==◌ xs ys) e in
    let h : x ≡ y = eqb-true x y p.0 in
    let t : xs ≡ ys = equal_from_same xs ys p.1 in
    cc

same_itself : (xs : Name) → same_name xs xs ≡ true
same_itself [] = refl
same_itself (x ∷ xs) = let h : (x == x) ≡ true = eq-eqb x x refl in let r = same_itself xs in rw (h, r) refl

pub same_from_equal : (xs ys : Name) → xs ≡ ys → same_name xs ys ≡ true
same_from_equal xs ys e = rw e (same_itself ys)
