-- What holds at an assignment of a list of things under sets, as the list grows.
use Rattle.std.proofs.Common.{◌≡◌, Bool, true, false, List, [], ◌∷◌, ◌++◌, map, refl, ap, if◌then◌else◌}
use Rattle.lfg_context.specs.Seen.{Set}
use Rattle.lfg_context.specs.Sets.{Assignment, member}
use Rattle.lfg_instant.specs.Annotations.{holding}

pub holding-append : {X : Type 0} (xs ys : List (X × Set)) (a : Assignment) → holding (xs ++ ys) a ≡ holding xs a ++ holding ys a
holding-append {X} [] ys a = refl
holding-append {X} (x ∷ xs) ys a = by_member (member x.1 a) (holding-append xs ys a)
  where
    by_member : (b : Bool) → holding (xs ++ ys) a ≡ holding xs a ++ holding ys a
        → (if b then x.0 ∷ holding (xs ++ ys) a else holding (xs ++ ys) a) ≡ (if b then x.0 ∷ holding xs a else holding xs a) ++ holding ys a
    by_member true rest = ap (λ zs. x.0 ∷ zs) rest
    by_member false rest = rest

-- one thing more
pub holding-push : {X : Type 0} (xs : List (X × Set)) (x : X) (c : Set) (a : Assignment) → holding (xs ++ (x, c) ∷ []) a ≡ holding xs a ++ (if member c a then x ∷ [] else [])
holding-push {X} xs x c a = holding-append xs ((x, c) ∷ []) a

-- things made of things, each under the same set
pub holding-map : {X Y : Type 0} (h : X → Y) (xs : List (X × Set)) (a : Assignment) → holding (map (λ x. (h x.0, x.1)) xs) a ≡ map h (holding xs a)
holding-map {X} {Y} h [] a = refl
holding-map {X} {Y} h (x ∷ xs) a = by_member (member x.1 a) (holding-map h xs a)
  where
    by_member : (b : Bool) → holding (map (λ z. (h z.0, z.1)) xs) a ≡ map h (holding xs a)
        → (if b then h x.0 ∷ holding (map (λ z. (h z.0, z.1)) xs) a else holding (map (λ z. (h z.0, z.1)) xs) a) ≡ map h (if b then x.0 ∷ holding xs a else holding xs a)
    by_member true rest = ap (λ zs. h x.0 ∷ zs) rest
    by_member false rest = rest

-- where a condition gives something or nothing
pub nothing_given : {X : Type 0} (b : Bool) → (if b then [] else []) ≡ (let none : List X = [] in none)
nothing_given {X} true = refl
nothing_given {X} false = refl

pub given-append : {X : Type 0} (b : Bool) (xs ys : List X) → (if b then xs else []) ++ (if b then ys else []) ≡ (if b then xs ++ ys else [])
given-append {X} true xs ys = refl
given-append {X} false xs ys = refl

pub given-map : {X Y : Type 0} (h : X → Y) (b : Bool) (xs : List X) → map h (if b then xs else []) ≡ (if b then map h xs else [])
given-map {X} {Y} h true xs = refl
given-map {X} {Y} h false xs = refl
