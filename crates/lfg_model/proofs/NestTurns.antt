-- Reading rows and branches one by one: a turn of each loop.
use Rattle.std.proofs.Common.{◌≡◌, Bool, true, false, cond, Option, Some, None, List, [], ◌∷◌, ◌++◌, map, refl, ap, sym, ◌∙◌, append_assoc}
use Rattle.std.proofs.lemmas.List.{map-append}
use Rattle.lfg_model.specs.declared.lexeme.Lexeme.{Lexeme}
use Rattle.lfg_model.specs.declared.lexeme.Lexeme.TheVariants.{Bar, CloseBrace}
use Rattle.lfg_model.specs.Nests.{◌>>=◌, Readers, Nest, put, alone, more_branches, ends_branch, readers}
use Rattle.lfg_model.proofs.NestLaws.{GoesDown, row_is, branches_are}

-- what was read, behind what had been read before
abbrev pub in_front : {A : Type 0} → List A → Option (List A × List Lexeme) → Option (List A × List Lexeme)
in_front xs o = o >>= λ r. Some (xs ++ r.0, r.1)

pub front_none : {A : Type 0} (o : Option (List A × List Lexeme)) → in_front [] o ≡ o
front_none None = refl
front_none (Some r) = refl

front_put : {A : Type 0} (xs : List A) (x : A) (o : Option (List A × List Lexeme)) → in_front xs (put x o) ≡ in_front (xs ++ (x ∷ [])) o
front_put xs x None = refl
front_put {A} xs x (Some r) = ap (λ (ys : List A). let o : Option (List A × List Lexeme) = Some (ys, r.1) in o) (sym (append_assoc xs (x ∷ []) r.0))

-- one more item, and more behind it
after_item : {A B : Type 0} (nest : Nest A B) → GoesDown nest → (xs : List A) (ls : List Lexeme) (o : Option (A × List Lexeme)) → nest.item (readers nest) ls ≡ o
    → in_front xs ((readers nest).row ls) ≡ in_front xs (o >>= λ x. cond (nest.begins x.1) (put x.0 ((readers nest).row x.1)) (alone x.0 x.1))
after_item {A} nest d xs ls o e = ap (in_front xs) (row_is nest d ls ∙ ap (λ (q : Option (A × List Lexeme)). q >>= λ x. cond (nest.begins x.1) (put x.0 ((readers nest).row x.1)) (alone x.0 x.1)) e)

pub item_on : {A B : Type 0} (nest : Nest A B) → GoesDown nest → (xs ys : List A) (x : A) (ls us : List Lexeme) → nest.item (readers nest) ls ≡ Some (x, us) → nest.begins us ≡ true → ys ≡ xs ++ (x ∷ [])
    → in_front ys ((readers nest).row us) ≡ in_front xs ((readers nest).row ls)
item_on {A} nest d xs ys x ls us e b q = ap (λ (zs : List A). in_front zs ((readers nest).row us)) q
    ∙ sym (after_item nest d xs ls (Some (x, us)) e ∙ ap (λ (t : Bool). in_front xs (cond t (put x ((readers nest).row us)) (alone x us))) b ∙ front_put xs x ((readers nest).row us))

pub item_last : {A B : Type 0} (nest : Nest A B) → GoesDown nest → (xs ys : List A) (x : A) (ls us : List Lexeme) → nest.item (readers nest) ls ≡ Some (x, us) → nest.begins us ≡ false → ys ≡ xs ++ (x ∷ [])
    → in_front xs ((readers nest).row ls) ≡ Some (ys, us)
item_last {A} nest d xs ys x ls us e b q = after_item nest d xs ls (Some (x, us)) e ∙ ap (λ (t : Bool). in_front xs (cond t (put x ((readers nest).row us)) (alone x us))) b
    ∙ ap (λ (zs : List A). let r : Option (List A × List Lexeme) = Some (zs, us) in r) (sym q)

pub item_none : {A B : Type 0} (nest : Nest A B) → GoesDown nest → (xs : List A) (ls : List Lexeme) → nest.item (readers nest) ls ≡ None → in_front xs ((readers nest).row ls) ≡ None
item_none nest d xs ls e = after_item nest d xs ls None e

-- one more branch
after_branch : {A B : Type 0} (nest : Nest A B) → GoesDown nest → (bs : List B) (ls : List Lexeme) (o : Option (List A × List Lexeme)) → (readers nest).row ls ≡ o
    → in_front bs ((readers nest).branches ls) ≡ in_front bs (o >>= λ x. more_branches (readers nest) (nest.branch x.0) x.1)
after_branch {A} nest d bs ls o e = ap (in_front bs) (branches_are nest d ls ∙ ap (λ (q : Option (List A × List Lexeme)). q >>= λ x. more_branches (readers nest) (nest.branch x.0) x.1) (sym (row_is nest d ls) ∙ e))

pub branch_on : {A B : Type 0} (nest : Nest A B) → GoesDown nest → (bs cs : List B) (xs : List A) (ls us vs : List Lexeme) → (readers nest).row ls ≡ Some (xs, us) → us ≡ Bar ∷ vs → cs ≡ bs ++ (nest.branch xs ∷ [])
    → in_front cs ((readers nest).branches vs) ≡ in_front bs ((readers nest).branches ls)
branch_on {A} {B} nest d bs cs xs ls us vs e t q = ap (λ (ds : List B). in_front ds ((readers nest).branches vs)) q
    ∙ sym (after_branch nest d bs ls (Some (xs, us)) e ∙ ap (λ (ws : List Lexeme). in_front bs (more_branches (readers nest) (nest.branch xs) ws)) t ∙ front_put bs (nest.branch xs) ((readers nest).branches vs))

pub branch_last : {A B : Type 0} (nest : Nest A B) → GoesDown nest → (bs cs : List B) (xs : List A) (ls us vs : List Lexeme) → (readers nest).row ls ≡ Some (xs, us) → us ≡ CloseBrace ∷ vs → cs ≡ bs ++ (nest.branch xs ∷ [])
    → in_front bs ((readers nest).branches ls) ≡ Some (cs, vs)
branch_last {A} {B} nest d bs cs xs ls us vs e t q = after_branch nest d bs ls (Some (xs, us)) e ∙ ap (λ (ws : List Lexeme). in_front bs (more_branches (readers nest) (nest.branch xs) ws)) t
    ∙ ap (λ (ds : List B). let r : Option (List B × List Lexeme) = Some (ds, vs) in r) (sym q)

pub branch_none : {A B : Type 0} (nest : Nest A B) → GoesDown nest → (bs : List B) (ls : List Lexeme) → (readers nest).row ls ≡ None → in_front bs ((readers nest).branches ls) ≡ None
branch_none nest d bs ls e = after_branch nest d bs ls None e

no_more : {A B : Type 0} (r : Readers A B) (b : B) (ls : List Lexeme) → ends_branch ls ≡ false → more_branches r b ls ≡ None
no_more r b [] e = refl
no_more r b (Bar ∷ ls) e = cc
no_more r b (CloseBrace ∷ ls) e = cc
no_more r b (_ ∷ ls) e = refl

pub branch_bad : {A B : Type 0} (nest : Nest A B) → GoesDown nest → (bs : List B) (xs : List A) (ls us : List Lexeme) → (readers nest).row ls ≡ Some (xs, us) → ends_branch us ≡ false
    → in_front bs ((readers nest).branches ls) ≡ None
branch_bad nest d bs xs ls us e n = after_branch nest d bs ls (Some (xs, us)) e ∙ ap (in_front bs) (no_more (readers nest) (nest.branch xs) us n)

-- a list with one element more, seen by a function
pub pushed : {A B : Type 0} (f : A → B) (old new : List A) (x : A) → new ≡ old ++ (x ∷ []) → map f new ≡ map f old ++ (f x ∷ [])
pushed f old new x e = ap (map f) e ∙ map-append f old (x ∷ [])

pub pushed_as : {A B : Type 0} (f : A → B) (old new : List A) (x : A) (y : B) → new ≡ old ++ (x ∷ []) → f x ≡ y → map f new ≡ map f old ++ (y ∷ [])
pushed_as {A} {B} f old new x y e h = pushed f old new x e ∙ ap (λ (z : B). map f old ++ (z ∷ [])) h
