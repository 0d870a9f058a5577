-- What stands in a list, place by place.
use Rattle.std.proofs.Common.{◌≡◌, ◌≢◌, ℕ, zero, suc, ◌+◌, ◌<◌, List, [], ◌∷◌, ◌++◌, length, get_or, take, map, refl, ap, sym, ◌∙◌, subst, arith}
use Rattle.std.proofs.lemmas.List.{take_more}
use Rattle.lfg_model.specs.Lists.{In, here, later}

pub stands : {X : Type 0} (xs : List X) (i : ℕ) (y : X) → i < length xs → y ≡ get_or xs i y → In y xs
stands [] i y l e = absurd (let none : ⊥ = omega arith in none)
stands {X} (x ∷ xs) zero y l e = subst (λ (z : X). In y (z ∷ xs)) e here
stands (x ∷ xs) (suc i) y l e = later (stands xs i y (omega arith) e)

pub In-push_cases : {X : Type 0} (P : Type 0) (x y : X) (xs : List X) → In x (xs ++ y ∷ []) → (In x xs → P) → (x ≡ y → P) → P
In-push_cases P x y [] (later r) f g = elim r [ ]
In-push_cases P x y [] here f g = g refl
In-push_cases P x y (z ∷ xs) here f g = f here
In-push_cases P x y (z ∷ xs) (later r) f g = In-push_cases P x y xs r (λ s. f (later s)) g

pub none_more : {X : Type 0} (x y : X) (xs : List X) (i : ℕ) → i < length xs → y ≡ get_or xs i y → y ≢ x → (In x (take i xs) → ⊥) → In x (take (i + 1) xs) → ⊥
none_more {X} x y xs i l e differs never r =
    In-push_cases ⊥ x y (take i xs) (subst (λ (us : List X). In x us) (take_more xs i y l ∙ ap (λ (z : X). take i xs ++ z ∷ []) (sym e)) r) never (λ s. differs (sym s))

-- ---- loops that collect

map_push : {X Y : Type 0} (f : X → Y) (xs : List X) (x : X) → map f (xs ++ x ∷ []) ≡ map f xs ++ f x ∷ []
map_push f [] x = refl
map_push f (y ∷ ys) x = ap (λ (zs : List _). f y ∷ zs) (map_push f ys x)

pub mapped_more : {X Y : Type 0} (f : X → Y) (xs : List X) (i : ℕ) (x : X) → i < length xs → x ≡ get_or xs i x → map f (take (i + 1) xs) ≡ map f (take i xs) ++ f x ∷ []
mapped_more {X} {Y} f xs i x l e = ap (map f) (take_more xs i x l ∙ ap (λ (z : X). take i xs ++ z ∷ []) (sym e)) ∙ map_push f (take i xs) x

pub collected : {X Y Z : Type 0} (f : Y → Z) (g : X → Y) (xs : List X) (i : ℕ) (x : X) (old new : List Z) (z : Z) → i < length xs → x ≡ get_or xs i x → old ≡ map f (map g (take i xs)) → z ≡ f (g x) → new ≡ old ++ z ∷ []
    → new ≡ map f (map g (take (i + 1) xs))
collected {X} {Y} {Z} f g xs i x old new z l e had is grew =
    grew ∙ ap (λ (us : List Z). us ++ z ∷ []) had ∙ ap (λ (u : Z). map f (map g (take i xs)) ++ u ∷ []) is ∙ sym (ap (map f) (mapped_more g xs i x l e) ∙ map_push f (map g (take i xs)) (g x))
