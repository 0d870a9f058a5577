-- Rows and branches one by one, both ways.
use Rattle.std.proofs.Common.{◌≡◌, ℕ, ◌<◌, Bool, true, false, cond, Option, Some, None, List, [], ◌∷◌, length, refl, ap, sym, ◌∙◌, subst, arith}
use Rattle.lfg_model.specs.declared.lexeme.Lexeme.{Lexeme}
use Rattle.lfg_model.specs.declared.lexeme.Lexeme.TheVariants.{Bar, CloseBrace}
use Rattle.lfg_model.specs.Nests.{◌>>=◌, Nest, put, alone, more_branches, readers}
use Rattle.lfg_model.proofs.NestLaws.{Less, GoesDown, row_is, branches_are, readers_shrink, item_shrinks}

pub same_some : {A : Type 0} {x y : A} → Some x ≡ Some y → x ≡ y
same_some e = cc

-- a pair in an option
pub some_pair : {A : Type 0} (x y : A) (ls us : List Lexeme) → x ≡ y → ls ≡ us → ◌≡◌ {A = Option (A × List Lexeme)} (Some (x, ls)) (Some (y, us))
some_pair x y ls us p q = cc

pub bound : {A B : Type 0} (o : Option A) (f : A → Option B) (y : B) → (o >>= f) ≡ Some y → (x : A) × (o ≡ Some x) × (f x ≡ Some y)
bound None f y e = absurd (let no : ⊥ = cc in no)
bound (Some x) f y e = (x, refl, e)

pub less_some : {A : Type 0} (n : ℕ) (o : Option (A × List Lexeme)) (x : A) (us : List Lexeme) → Less n o → o ≡ Some (x, us) → length us < n
less_some n None x us l e = absurd (let no : ⊥ = cc in no)
less_some {A} n (Some y) x us l e = subst (λ (z : A × List Lexeme). length z.1 < n) (same_some e) l

-- ---- from the cases

from_item : {A B : Type 0} (nest : Nest A B) → GoesDown nest → (ls us : List Lexeme) (x : A) → nest.item (readers nest) ls ≡ Some (x, us)
    → (readers nest).row ls ≡ cond (nest.begins us) (put x ((readers nest).row us)) (alone x us)
from_item {A} nest d ls us x e = row_is nest d ls ∙ ap (λ (o : Option (A × List Lexeme)). o >>= λ y. cond (nest.begins y.1) (put y.0 ((readers nest).row y.1)) (alone y.0 y.1)) e

pub row_last : {A B : Type 0} (nest : Nest A B) → GoesDown nest → (ls us : List Lexeme) (x : A) → nest.item (readers nest) ls ≡ Some (x, us) → nest.begins us ≡ false → (readers nest).row ls ≡ Some (x ∷ [], us)
row_last nest d ls us x e b = from_item nest d ls us x e ∙ ap (λ (t : Bool). cond t (put x ((readers nest).row us)) (alone x us)) b

pub row_more : {A B : Type 0} (nest : Nest A B) → GoesDown nest → (ls us vs : List Lexeme) (x : A) (xs : List A) → nest.item (readers nest) ls ≡ Some (x, us) → nest.begins us ≡ true → (readers nest).row us ≡ Some (xs, vs)
    → (readers nest).row ls ≡ Some (x ∷ xs, vs)
row_more nest d ls us vs x xs e b r = from_item nest d ls us x e ∙ ap (λ (t : Bool). cond t (put x ((readers nest).row us)) (alone x us)) b ∙ ap (put x) r

from_row : {A B : Type 0} (nest : Nest A B) → GoesDown nest → (ls us : List Lexeme) (xs : List A) → (readers nest).row ls ≡ Some (xs, us) → (readers nest).branches ls ≡ more_branches (readers nest) (nest.branch xs) us
from_row {A} nest d ls us xs e = branches_are nest d ls ∙ ap (λ (o : Option (List A × List Lexeme)). o >>= λ x. more_branches (readers nest) (nest.branch x.0) x.1) (sym (row_is nest d ls) ∙ e)

pub branches_last : {A B : Type 0} (nest : Nest A B) → GoesDown nest → (ls us : List Lexeme) (xs : List A) → (readers nest).row ls ≡ Some (xs, CloseBrace ∷ us) → (readers nest).branches ls ≡ Some (nest.branch xs ∷ [], us)
branches_last nest d ls us xs e = from_row nest d ls (CloseBrace ∷ us) xs e

pub branches_more : {A B : Type 0} (nest : Nest A B) → GoesDown nest → (ls us vs : List Lexeme) (xs : List A) (bs : List B) → (readers nest).row ls ≡ Some (xs, Bar ∷ us) → (readers nest).branches us ≡ Some (bs, vs)
    → (readers nest).branches ls ≡ Some (nest.branch xs ∷ bs, vs)
branches_more nest d ls us vs xs bs e r = from_row nest d ls (Bar ∷ us) xs e ∙ ap (put (nest.branch xs)) r

-- ---- to the cases

-- how a row was read: an item, and nothing more or a further row
pub data RowCases {A B : Type 0} (nest : Nest A B) (ls us : List Lexeme) : List A → Type 0 where
  one : {x : A} → nest.item (readers nest) ls ≡ Some (x, us) → RowCases nest ls us (x ∷ [])
  more : {x : A} {xs : List A} (vs : List Lexeme) → nest.item (readers nest) ls ≡ Some (x, vs) → length vs < length ls → (readers nest).row vs ≡ Some (xs, us) → RowCases nest ls us (x ∷ xs)

cases_of : {A B : Type 0} (nest : Nest A B) (b : Bool) (ls us vs : List Lexeme) (x : A) (xs : List A) → nest.item (readers nest) ls ≡ Some (x, vs) → length vs < length ls
    → cond b (put x ((readers nest).row vs)) (alone x vs) ≡ Some (xs, us) → RowCases nest ls us xs
cases_of {A} {B} nest true ls us vs x xs i l e =
    let b = bound ((readers nest).row vs) (λ r. Some (x ∷ r.0, r.1)) (xs, us) e in
    let h : ◌≡◌ {A = List A × List Lexeme} (x ∷ b.0.0, b.0.1) (xs, us) = same_some b.2 in
    let r : (readers nest).row vs ≡ Some (b.0.0, us) = b.1 ∙ ap (λ (ws : List Lexeme). let o : Option (List A × List Lexeme) = Some (b.0.0, ws) in o) (ap (λ (y : List A × List Lexeme). y.1) h) in
    subst (λ (ys : List A). RowCases nest ls us ys) (ap (λ (y : List A × List Lexeme). y.0) h) (more vs i l r)
cases_of {A} {B} nest false ls us vs x xs i l e =
    let h : ◌≡◌ {A = List A × List Lexeme} (x ∷ [], vs) (xs, us) = same_some e in
    let r : nest.item (readers nest) ls ≡ Some (x, us) = i ∙ ap (λ (ws : List Lexeme). let o : Option (A × List Lexeme) = Some (x, ws) in o) (ap (λ (y : List A × List Lexeme). y.1) h) in
    subst (λ (ys : List A). RowCases nest ls us ys) (ap (λ (y : List A × List Lexeme). y.0) h) (one r)

pub row_cases : {A B : Type 0} (nest : Nest A B) → GoesDown nest → (ls us : List Lexeme) (xs : List A) → (readers nest).row ls ≡ Some (xs, us) → RowCases nest ls us xs
row_cases {A} nest d ls us xs e =
    let b = bound (nest.item (readers nest) ls) (λ x. cond (nest.begins x.1) (put x.0 ((readers nest).row x.1)) (alone x.0 x.1)) (xs, us) (sym (row_is nest d ls) ∙ e) in
    cases_of nest (nest.begins b.0.1) ls us b.0.1 b.0.0 xs b.1 (less_some (length ls) (nest.item (readers nest) ls) b.0.0 b.0.1 (item_shrinks nest d ls) b.1) b.2

-- how branches were read: a row, and the closing brace or a bar with further branches
pub data BranchCases {A B : Type 0} (nest : Nest A B) (ls us : List Lexeme) : List B → Type 0 where
  one : {xs : List A} → (readers nest).row ls ≡ Some (xs, CloseBrace ∷ us) → BranchCases nest ls us (nest.branch xs ∷ [])
  more : {xs : List A} {bs : List B} (vs : List Lexeme) → (readers nest).row ls ≡ Some (xs, Bar ∷ vs) → length vs < length ls → (readers nest).branches vs ≡ Some (bs, us) → BranchCases nest ls us (nest.branch xs ∷ bs)

branch_cases_of : {A B : Type 0} (nest : Nest A B) (ls us vs : List Lexeme) (xs : List A) (bs : List B) → (readers nest).row ls ≡ Some (xs, vs) → length vs < length ls
    → more_branches (readers nest) (nest.branch xs) vs ≡ Some (bs, us) → BranchCases nest ls us bs
branch_cases_of nest ls us [] xs bs i l e = absurd (let no : ⊥ = cc in no)
branch_cases_of {A} {B} nest ls us (Bar ∷ vs) xs bs i l e =
    let b = bound ((readers nest).branches vs) (λ r. Some (nest.branch xs ∷ r.0, r.1)) (bs, us) e in
    let h : ◌≡◌ {A = List B × List Lexeme} (nest.branch xs ∷ b.0.0, b.0.1) (bs, us) = same_some b.2 in
    let r : (readers nest).branches vs ≡ Some (b.0.0, us) = b.1 ∙ ap (λ (ws : List Lexeme). let o : Option (List B × List Lexeme) = Some (b.0.0, ws) in o) (ap (λ (y : List B × List Lexeme). y.1) h) in
    subst (λ (ys : List B). BranchCases nest ls us ys) (ap (λ (y : List B × List Lexeme). y.0) h) (more vs i (omega arith) r)
branch_cases_of {A} {B} nest ls us (CloseBrace ∷ vs) xs bs i l e =
    let h : ◌≡◌ {A = List B × List Lexeme} (nest.branch xs ∷ [], vs) (bs, us) = same_some e in
    let r : (readers nest).row ls ≡ Some (xs, CloseBrace ∷ us) = i ∙ ap (λ (ws : List Lexeme). let o : Option (List A × List Lexeme) = Some (xs, CloseBrace ∷ ws) in o) (ap (λ (y : List B × List Lexeme). y.1) h) in
    subst (λ (ys : List B). BranchCases nest ls us ys) (ap (λ (y : List B × List Lexeme). y.0) h) (one r)
branch_cases_of nest ls us (_ ∷ vs) xs bs i l e = absurd (let no : ⊥ = cc in no)

pub branch_cases : {A B : Type 0} (nest : Nest A B) → GoesDown nest → (ls us : List Lexeme) (bs : List B) → (readers nest).branches ls ≡ Some (bs, us) → BranchCases nest ls us bs
branch_cases {A} {B} nest d ls us bs e =
    let b = bound ((readers nest).row ls) (λ x. more_branches (readers nest) (nest.branch x.0) x.1) (bs, us)
    (ap (λ (o : Option (List A × List Lexeme)). o >>= λ x. more_branches (readers nest) (nest.branch x.0) x.1) (row_is nest d ls) ∙ sym (branches_are nest d ls) ∙ e) in
    branch_cases_of nest ls us b.0.1 b.0.0 bs b.1 (less_some (length ls) ((readers nest).row ls) b.0.0 b.0.1 ((readers_shrink nest d).row ls) b.1) b.2

pub row_shorter : {A B : Type 0} (nest : Nest A B) → GoesDown nest → (ls us : List Lexeme) (xs : List A) → (readers nest).row ls ≡ Some (xs, us) → length us < length ls
row_shorter nest d ls us xs e = less_some (length ls) ((readers nest).row ls) xs us ((readers_shrink nest d).row ls) e
