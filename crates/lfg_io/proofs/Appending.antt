-- Bytes appended in two calls.
use Rattle.std.proofs.Common.{◌≡◌, ℕ, zero, suc, ◌+◌, ◌≤◌, List, [], ◌∷◌, ◌++◌, length, take, refl, ap, sym, subst, ◌∙◌, append_assoc, arith, length-append}
use Rattle.std.proofs.Math.Seq.{take-append-add}
use Rattle.std.proofs.lemmas.List.{take-append-le}
use Rattle.std.specs.Prelude.{Option, Some, None, Result, Ok, Err, OnErr}
use Rattle.std.proofs.Common.{get_or, drop, ◌<◌}
use Rattle.std.specs.List.{flat_map}
use Rattle.lfg_io.specs.Sink.{Appends, AppendsPrefix}

pub Appends-nothing : (a : Option (List ℕ)) → Appends a a []
Appends-nothing None = refl
Appends-nothing (Some xs) = ap Some (sym (append_nil xs))
  where
    append_nil : (xs : List ℕ) → xs ++ [] ≡ xs
    append_nil [] = refl
    append_nil (x ∷ xs) = ap (λ ys. x ∷ ys) (append_nil xs)

pub Appends-more : (a b c : Option (List ℕ)) (xs ys : List ℕ) → Appends a b xs → Appends b c ys → Appends a c (xs ++ ys)
Appends-more None b c xs ys h k = subst (λ o. Appends o c ys) h k
Appends-more (Some ws) b c xs ys h k = let k' = subst (λ o. Appends o c ys) h k in k' ∙ ap Some (append_assoc ws xs ys)

-- a part of the second piece, behind the first, before a third
pub AppendsPrefix-more : (a b c : Option (List ℕ)) (xs ys zs all : List ℕ) → all ≡ (xs ++ ys) ++ zs → Appends a b xs → AppendsPrefix b c ys → AppendsPrefix a c all
AppendsPrefix-more a b c xs ys zs all e h k =
    let n = length xs + k.0 in
    let w : length xs + k.0 ≤ length (xs ++ ys) = simp length-append (omega (arith, k.1)) in
    let t : take n all ≡ xs ++ take k.0 ys =
    ap (take n) e ∙ take-append-le n (xs ++ ys) zs w ∙ take-append-add xs ys k.0 in
    let l : n ≤ length all = rw e (simp length-append (omega (arith, k.1))) in
    (n, l, subst (Appends a c) (sym t) (Appends-more a b c xs (take k.0 ys) h k.2))

-- a list of pieces is those before one, that one, and those behind it
pub pieces_split : {X : Type 0} (f : X → List ℕ) (xs : List X) (i : ℕ) (d : X) → i < length xs →
    flat_map f xs ≡ (flat_map f (take i xs) ++ f (get_or xs i d)) ++ flat_map f (drop (suc i) xs)
pieces_split f [] i d h = let no : ⊥ = omega arith in absurd no
pieces_split f (x ∷ xs) zero d h = refl
pieces_split f (x ∷ xs) (suc i) d h =
    let rest = pieces_split f xs i d (omega arith) in
    ap (λ ys. f x ++ ys) rest ∙ simp append_assoc

pub on_err : {T E : Type 0} {P : Type 0} (r : Result T E) → P → OnErr r P
on_err (Ok v) p = tt
on_err (Err e) p = p
