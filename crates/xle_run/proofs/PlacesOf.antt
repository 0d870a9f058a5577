-- The first place of a name in a list.
use Rattle.std.proofs.Common.{◌≡◌, ℕ, zero, suc, ◌+◌, ◌<◌, Bool, true, false, cond, Option, Some, None, List, [], ◌∷◌, ◌++◌, length, get_or, take, slice_get, refl, ap, sym, ◌∙◌, subst, arith}
use Rattle.std.proofs.lemmas.Bool.{false≢true}
use Rattle.std.proofs.lemmas.List.{take_more}
use Rattle.std.specs.declared.cmp.Ordering.{Ordering}
use Rattle.std.specs.declared.cmp.Ordering.TheVariants.{Less, Equal, Greater}
use Rattle.std.specs.Ordering.{is_eq}
use Rattle.lfg_terms.specs.Order.{name_cmp}
use Rattle.lfg_terms.proofs.Ties.{name_cmp_same}
use Rattle.lfg_model.specs.Lists.{In, here, later, Once, more}
use Rattle.lfg_model.specs.Terms.{Name}
use Rattle.lfg_model.proofs.ListLaws.{Once-push}
use Rattle.xle_run.specs.Heads.{place_of, next_place}
use Rattle.xle_run.proofs.Places.{stands}

-- ---- the test of names

is_equal : (o : Ordering) → is_eq o ≡ true → o ≡ Equal
is_equal Less e = cc
is_equal Equal e = refl
is_equal Greater e = cc

pub name_from_test : (x y : Name) → is_eq (name_cmp x y) ≡ true → x ≡ y
name_from_test x y e = (name_cmp_same x y).0 (is_equal (name_cmp x y) e)

pub test_same : (x : Name) → is_eq (name_cmp x x) ≡ true
test_same x = ap is_eq ((name_cmp_same x x).1 refl)

-- ---- places

placed_in : (b : Bool) (name x : Name) (xs : List Name) (n : ℕ) → (b ≡ true → x ≡ name) → cond b (Some 0) (next_place (place_of name xs)) ≡ Some n → ((m : ℕ) → place_of name xs ≡ Some m → In name xs) → In name (x ∷ xs)
placed_in true name x xs n same e go = subst (λ (y : Name). In name (y ∷ xs)) (sym (same refl)) here
placed_in false name x xs n same e go = later (from (place_of name xs) refl e)
  where
    from : (o : Option ℕ) → place_of name xs ≡ o → next_place o ≡ Some n → In name xs
    from None s h = cc
    from (Some m) s h = go m s

-- a name with a place stands there
pub In_from_place : (name : Name) (xs : List Name) (n : ℕ) → place_of name xs ≡ Some n → In name xs
In_from_place name [] n e = cc
In_from_place name (x ∷ xs) n e = placed_in (is_eq (name_cmp x name)) name x xs n (name_from_test x name) e (λ m s. In_from_place name xs m s)

unplaced : (b : Bool) (o : Option ℕ) → cond b (Some 0) (next_place o) ≡ None → (b ≡ false) × (o ≡ None)
unplaced true o e = cc
unplaced false None e = (refl, refl)
unplaced false (Some m) e = cc

-- a name without a place stands nowhere
pub not_in : (name : Name) (xs : List Name) → place_of name xs ≡ None → In name xs → ⊥
not_in name [] e r = elim r [ ]
not_in name (x ∷ xs) e here = false≢true (sym (unplaced (is_eq (name_cmp name name)) (place_of name xs) e).0 ∙ test_same name)
not_in name (x ∷ xs) e (later r) = not_in name xs (unplaced (is_eq (name_cmp x name)) (place_of name xs) e).1 r

push_step : (b t : Bool) (o : Option ℕ) (n : ℕ) → (t ≡ true → cond b (Some 0) (next_place o) ≡ None) → cond b (Some 0) (next_place (cond t (Some n) o)) ≡ cond t (Some (n + 1)) (cond b (Some 0) (next_place o))
push_step true true o n f = let e : ◌≡◌ {A = Option ℕ} (Some 0) None = f refl in cc
push_step true false o n f = refl
push_step false true o n f = refl
push_step false false o n f = refl

none_behind : (b : Bool) (o : Option ℕ) → cond b (Some 0) (next_place o) ≡ None → o ≡ None
none_behind b o e = (unplaced b o e).1

-- the place of a name after a new one
pub place-push : (xs : List Name) (x name : Name) → (is_eq (name_cmp x name) ≡ true → place_of name xs ≡ None) → place_of name (xs ++ x ∷ []) ≡ cond (is_eq (name_cmp x name)) (Some (length xs)) (place_of name xs)
place-push [] x name f = refl
place-push (y ∷ ys) x name f =
    ap (λ (o : Option ℕ). cond (is_eq (name_cmp y name)) (Some 0) (next_place o)) (place-push ys x name (λ t. none_behind (is_eq (name_cmp y name)) (place_of name ys) (f t)))
    ∙ push_step (is_eq (name_cmp y name)) (is_eq (name_cmp x name)) (place_of name ys) (length ys) f
    ∙ ap (λ (n : ℕ). cond (is_eq (name_cmp x name)) (Some n) (place_of name (y ∷ ys))) (let e : length ys + 1 ≡ suc (length ys) = omega arith in e)

-- ---- no name twice

-- a name that stands before its place stands there twice
pub twice : {X : Type 0} (xs : List X) (i : ℕ) (x : X) → Once xs → i < length xs → x ≡ get_or xs i x → In x (take i xs) → ⊥
twice [] i x o l e r = omega arith
twice (y ∷ ys) zero x o l e r = elim r [ ]
twice (y ∷ ys) (suc i) x (more new o) l e here = new (stands ys i y (omega arith) e)
twice (y ∷ ys) (suc i) x (more new o) l e (later r) = twice ys i x o (omega arith) e r

pub once_more : {X : Type 0} (xs : List X) (i : ℕ) (x : X) → Once (take i xs) → i < length xs → x ≡ get_or xs i x → (In x (take i xs) → ⊥) → Once (take (i + 1) xs)
once_more {X} xs i x o l e new =
    subst (λ (us : List X). Once us) (sym (take_more xs i x l ∙ ap (λ (z : X). take i xs ++ z ∷ []) (sym e))) (Once-push (take i xs) x o new)

place_behind : (x : Name) (xs : List Name) (j : ℕ) (name : Name) → (In x xs → ⊥) → place_of name xs ≡ Some j → (b : Bool) → is_eq (name_cmp x name) ≡ b → cond b (Some 0) (next_place (place_of name xs)) ≡ Some (suc j)
place_behind x xs j name new found true t = absurd (new (subst (λ (y : Name). In y xs) (sym (name_from_test x name t)) (In_from_place name xs j found)))
place_behind x xs j name new found false t = ap next_place found ∙ ap (λ (n : ℕ). Some n) (let s : j + 1 ≡ suc j = omega arith in s)

place_cond : (x : Name) (xs : List Name) (j : ℕ) (name : Name) → (In x xs → ⊥) → place_of name xs ≡ Some j → place_of name (x ∷ xs) ≡ Some (suc j)
place_cond x xs j name new found = place_behind x xs j name new found (is_eq (name_cmp x name)) refl

-- where no name stands twice, its place is the one at which it stands
pub place_at : (xs : List Name) (j : ℕ) (name : Name) → Once xs → slice_get xs j ≡ Some name → place_of name xs ≡ Some j
place_at [] j name o e = cc
place_at (x ∷ xs) zero name o e =
    let same : x ≡ name = cc in
    ap (λ (b : Bool). cond b (Some 0) (next_place (place_of name xs))) (subst (λ (y : Name). is_eq (name_cmp x y) ≡ true) same (test_same x))
place_at (x ∷ xs) (suc j) name (more new o) e = place_cond x xs j name new (place_at xs j name o e)

got_behind : (x : Name) (xs : List Name) (j : ℕ) (name : Name) → ((m : ℕ) → place_of name xs ≡ Some m → slice_get xs m ≡ Some name) → (o : Option ℕ) → place_of name xs ≡ o → next_place o ≡ Some j → slice_get (x ∷ xs) j ≡ Some name
got_behind x xs j name go None s h = cc
got_behind x xs j name go (Some m) s h =
    let p : m + 1 ≡ j = cc in
    let up : suc m ≡ j = omega arith in
    subst (λ (n : ℕ). slice_get (x ∷ xs) n ≡ Some name) up (go m s)

got_at : (x : Name) (xs : List Name) (j : ℕ) (name : Name) → ((m : ℕ) → place_of name xs ≡ Some m → slice_get xs m ≡ Some name) → (b : Bool) → is_eq (name_cmp x name) ≡ b → cond b (Some 0) (next_place (place_of name xs)) ≡ Some j → slice_get (x ∷ xs) j ≡ Some name
got_at x xs j name go true t h = let z : 0 ≡ j = cc in subst (λ (n : ℕ). slice_get (x ∷ xs) n ≡ Some name) z (ap (λ (y : Name). Some y) (name_from_test x name t))
got_at x xs j name go false t h = got_behind x xs j name go (place_of name xs) refl h

-- and what stands at its place is the name
pub get_at_place : (xs : List Name) (j : ℕ) (name : Name) → place_of name xs ≡ Some j → slice_get xs j ≡ Some name
get_at_place [] j name e = cc
get_at_place (x ∷ xs) j name e = got_at x xs j name (λ m s. get_at_place xs m name s) (is_eq (name_cmp x name)) refl e
