-- Lists that are related one by one, as the loops make them.
use Rattle.std.proofs.Common.{◌≡◌, ℕ, ◌+◌, ◌<◌, List, [], ◌∷◌, ◌++◌, length, map, take, get_or, sym, ap, ◌∙◌, subst}
use Rattle.std.proofs.lemmas.List.{take_more, map-append}
use Rattle.lfg_model.specs.Templates.{Each, end, and}

pub each_push : {X Y : Type 0} (R : X → Y → Type 0) (xs : List X) (ys : List Y) (x : X) (y : Y) → Each R xs ys → R x y → Each R (xs ++ x ∷ []) (ys ++ y ∷ [])
each_push R [] [] x y e h = and h end
each_push R [] (z ∷ ys) x y e h = absurd (elim e [ ])
each_push R (w ∷ xs) [] x y e h = absurd (elim e [ ])
each_push R (w ∷ xs) (z ∷ ys) x y (and f g) h = and f (each_push R xs ys x y g h)

pub each_more : {X Y P Q : Type 0} (R : P → Q → Type 0) (f : X → P) (g : Y → Q) (xs : List X) (i : ℕ) (x : X) (out : List Y) (y : Y) (whole : List Y) → i < length xs → x ≡ get_or xs i x → whole ≡ out ++ y ∷ []
    → Each R (map f (take i xs)) (map g out) → R (f x) (g y) → Each R (map f (take (i + 1) xs)) (map g whole)
each_more {X} {Y} {P} {Q} R f g xs i x out y whole l e w h r =
    subst (λ (o : List Y). Each R (map f (take (i + 1) xs)) (map g o)) (sym w)
    (subst (λ (o : List Q). Each R (map f (take (i + 1) xs)) o) (sym (map-append g out (y ∷ [])))
    (subst (λ (a : List P). Each R a (map g out ++ g y ∷ []))
    (sym (map-append f (take i xs) (x ∷ [])) ∙ ap (map f) (sym (take_more xs i x l ∙ ap (λ (z : X). take i xs ++ z ∷ []) (sym e))))
    (each_push R (map f (take i xs)) (map g out) (f x) (g y) h r)))
