-- Filters of lists.
use Rattle.std.proofs.Common.{◌≡◌, Bool, true, false, cond, List, [], ◌∷◌, map, filter, refl, sym, ◌∙◌, ap, Some, inl, inr, ◌⊎◌}
use Rattle.std.specs.Prelude.{find}
use Rattle.std.proofs.lemmas.Bool.{false≢true}
use Rattle.lfg_model.specs.Lists.{In, here, later}
use Rattle.lfg_model.proofs.ListLaws.{In-nil, In-cons_cases}

pub In_filter : {X : Type 0} (p : X → Bool) (xs : List X) (x : X) → In x (filter p xs) → In x xs × (p x ≡ true)
In_filter p [] x i = In-nil i
In_filter {X} p (y ∷ xs) x i = go (p y) refl i (In_filter p xs x)
  where
    go : (b : Bool) → p y ≡ b → In x (cond b (y ∷ filter p xs) (filter p xs)) → (In x (filter p xs) → In x xs × (p x ≡ true)) → In x (y ∷ xs) × (p x ≡ true)
    go true t j rest = elim (In-cons_cases j) [ inl e ↦ (rw e here, ap p e ∙ t) | inr k ↦ let r = rest k in (later r.0, r.1) ]
    go false t j rest = let r = rest j in (later r.0, r.1)

pub In-filter : {X : Type 0} (p : X → Bool) (xs : List X) (x : X) → In x xs → p x ≡ true → In x (filter p xs)
In-filter p [] x i t = In-nil i
In-filter {X} p (y ∷ xs) x i t = go (p y) refl (In-cons_cases i) (λ k. In-filter p xs x k t)
  where
    go : (b : Bool) → p y ≡ b → (x ≡ y) ⊎ In x xs → (In x xs → In x (filter p xs)) → In x (cond b (y ∷ filter p xs) (filter p xs))
    go true e (inl s) rest = rw s here
    go true e (inr k) rest = later (rest k)
    go false e (inl s) rest = absurd (false≢true (sym e ∙ ap p (sym s) ∙ t))
    go false e (inr k) rest = rest k

pub filter-map : {X Y : Type 0} (g : X → Y) (p : Y → Bool) (xs : List X) → filter p (map g xs) ≡ map g (filter (λ x. p (g x)) xs)
filter-map g p [] = refl
filter-map g p (x ∷ xs) = go (p (g x)) refl (filter-map g p xs)
  where
    go : (b : Bool) → p (g x) ≡ b → filter p (map g xs) ≡ map g (filter (λ x. p (g x)) xs)
        → cond b (g x ∷ filter p (map g xs)) (filter p (map g xs)) ≡ map g (cond b (x ∷ filter (λ x. p (g x)) xs) (filter (λ x. p (g x)) xs))
    go true e rest = ap (λ ys. g x ∷ ys) rest
    go false e rest = rest

-- the one element that passes is found
pub find_only : {X : Type 0} (p : X → Bool) (r : X) (xs : List X) → ((x : X) → In x xs → (x ≡ r) ⊎ (p x ≡ false)) → p r ≡ true → In r xs → find p xs ≡ Some r
find_only p r [] each t i = In-nil i
find_only {X} p r (x ∷ xs) each t i = go (each x here) (find_only p r xs (λ y j. each y (later j)) t)
  where
    at : (b : Bool) → p x ≡ b → cond (p x) (Some x) (find p xs) ≡ cond b (Some x) (find p xs)
    at b e = ap (λ c. cond c (Some x) (find p xs)) e

    go : (x ≡ r) ⊎ (p x ≡ false) → (In r xs → find p xs ≡ Some r) → cond (p x) (Some x) (find p xs) ≡ Some r
    go (inl e) rest = at true (ap p e ∙ t) ∙ ap (λ y. Some y) e
    go (inr f) rest = at false f ∙ rest (elim (In-cons_cases i) [ inl e ↦ absurd (false≢true (sym f ∙ ap p (sym e) ∙ t)) | inr k ↦ k ])
