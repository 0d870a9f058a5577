-- The readers of a nest satisfy their equations, with no bound on the depth, where an item calls
-- them on what is shorter alone.
use Rattle.std.proofs.Common.{◌≡◌, ℕ, zero, suc, ◌<◌, ◌≤◌, Bool, true, false, cond, Option, Some, None, List, [], ◌∷◌, length, refl, ap, ◌∙◌, arith}
use Rattle.lfg_model.specs.declared.lexeme.Lexeme.{Lexeme}
use Rattle.lfg_model.specs.declared.lexeme.Lexeme.TheVariants.{Bar, CloseBrace}
use Rattle.lfg_model.specs.Nests.{◌>>=◌, Readers, Nest, put, alone, row_by, more_branches, branches_by, level, readers}

-- what was read leaves fewer than n lexemes
abbrev pub Less : {A : Type 0} → ℕ → Option (A × List Lexeme) → Type 0
Less n None = Unit {0}
Less n (Some x) = length x.1 < n

-- the readers leave less than they were given
pub record Shrinks {A B : Type 0} (r : Readers A B) : Type 0 where
  pub row : (ls : List Lexeme) → Less (length ls) (r.row ls)
  pub branches : (ls : List Lexeme) → Less (length ls) (r.branches ls)

-- the readers agree on fewer than n lexemes
pub record Agree {A B : Type 0} (n : ℕ) (r s : Readers A B) : Type 0 where
  pub row : (ls : List Lexeme) → length ls < n → r.row ls ≡ s.row ls
  pub branches : (ls : List Lexeme) → length ls < n → r.branches ls ≡ s.branches ls

-- an item takes a lexeme at least, and calls the readers on what is shorter alone
pub record GoesDown {A B : Type 0} (nest : Nest A B) : Type 0 where
  pub less : (r : Readers A B) → Shrinks r → (ls : List Lexeme) → Less (length ls) (nest.item r ls)
  pub same : (r s : Readers A B) (ls : List Lexeme) → Agree (length ls) r s → nest.item r ls ≡ nest.item s ls

pub less_bind : {A B : Type 0} (m n : ℕ) (o : Option (A × List Lexeme)) (f : A × List Lexeme → Option (B × List Lexeme)) → Less m o → ((x : A × List Lexeme) → length x.1 < m → Less n (f x)) → Less n (o >>= f)
less_bind m n None f l g = tt
less_bind m n (Some x) f l g = g x l

pub same_bind : {A B : Type 0} (m : ℕ) (o : Option (A × List Lexeme)) (f g : A × List Lexeme → Option (B × List Lexeme)) → Less m o → ((x : A × List Lexeme) → length x.1 < m → f x ≡ g x) → (o >>= f) ≡ (o >>= g)
same_bind m None f g l h = refl
same_bind m (Some x) f g l h = h x l

pub pick : {A : Type 0} (P : A → Type 0) (b : Bool) (x y : A) → P x → P y → P (cond b x y)
pick P true x y p q = p
pick P false x y p q = q

pub less_weaker : {A : Type 0} (m n : ℕ) (o : Option (A × List Lexeme)) → m ≤ n → Less m o → Less n o
less_weaker m n None l h = tt
less_weaker m n (Some x) l h = omega arith

less_put : {A : Type 0} (n : ℕ) (x : A) (o : Option (List A × List Lexeme)) → Less n o → Less n (put x o)
less_put n x None l = tt
less_put n x (Some r) l = l

row_less : {A B : Type 0} (nest : Nest A B) → GoesDown nest → (r : Readers A B) → Shrinks r → (ls : List Lexeme) → Less (length ls) (row_by nest r ls)
row_less {A} nest d r s ls = less_bind (length ls) (length ls) (nest.item r ls) (λ x. cond (nest.begins x.1) (put x.0 (r.row x.1)) (alone x.0 x.1)) (d.less r s ls)
    (λ x l. pick (λ (o : Option (List A × List Lexeme)). Less (length ls) o) (nest.begins x.1) (put x.0 (r.row x.1)) (alone x.0 x.1)
    (less_put (length ls) x.0 (r.row x.1) (less_weaker (length x.1) (length ls) (r.row x.1) (omega arith) (s.row x.1))) l)

more_less : {A B : Type 0} (r : Readers A B) → Shrinks r → (b : B) (ls : List Lexeme) → Less (length ls) (more_branches r b ls)
more_less r s b [] = tt
more_less r s b (Bar ∷ ls) = less_weaker (length ls) (suc (length ls)) (put b (r.branches ls)) (omega arith) (less_put (length ls) b (r.branches ls) (s.branches ls))
more_less r s b (CloseBrace ∷ ls) = omega arith
more_less r s b (_ ∷ ls) = tt

branches_less : {A B : Type 0} (nest : Nest A B) → GoesDown nest → (r : Readers A B) → Shrinks r → (ls : List Lexeme) → Less (length ls) (branches_by nest r ls)
branches_less nest d r s ls = less_bind (length ls) (length ls) (row_by nest r ls) (λ x. more_branches r (nest.branch x.0) x.1) (row_less nest d r s ls)
    (λ x l. less_weaker (length x.1) (length ls) (more_branches r (nest.branch x.0) x.1) (omega arith) (more_less r s (nest.branch x.0) x.1))

level_shrinks : {A B : Type 0} (nest : Nest A B) → GoesDown nest → (n : ℕ) → Shrinks (level nest n)
unfolding level
level_shrinks nest d zero = record { row = λ ls. tt; branches = λ ls. tt }
level_shrinks nest d (suc n) = record { row = row_less nest d (level nest n) (level_shrinks nest d n); branches = branches_less nest d (level nest n) (level_shrinks nest d n) }

row_same : {A B : Type 0} (nest : Nest A B) → GoesDown nest → (r s : Readers A B) (ls : List Lexeme) → Shrinks s → Agree (length ls) r s → row_by nest r ls ≡ row_by nest s ls
row_same {A} nest d r s ls h a =
    ap (λ (o : Option (A × List Lexeme)). o >>= λ x. cond (nest.begins x.1) (put x.0 (r.row x.1)) (alone x.0 x.1)) (d.same r s ls a)
    ∙ same_bind (length ls) (nest.item s ls) (λ x. cond (nest.begins x.1) (put x.0 (r.row x.1)) (alone x.0 x.1)) (λ x. cond (nest.begins x.1) (put x.0 (s.row x.1)) (alone x.0 x.1)) (d.less s h ls)
    (λ x l. ap (λ (o : Option (List A × List Lexeme)). cond (nest.begins x.1) (put x.0 o) (alone x.0 x.1)) (a.row x.1 l))

more_same : {A B : Type 0} (r s : Readers A B) (n : ℕ) (b : B) (ls : List Lexeme) → length ls < n → Agree n r s → more_branches r b ls ≡ more_branches s b ls
more_same r s n b [] l a = refl
more_same r s n b (Bar ∷ ls) l a = ap (put b) (a.branches ls (omega arith))
more_same r s n b (_ ∷ ls) l a = refl

branches_same : {A B : Type 0} (nest : Nest A B) → GoesDown nest → (r s : Readers A B) (ls : List Lexeme) → Shrinks s → Agree (length ls) r s → branches_by nest r ls ≡ branches_by nest s ls
branches_same {A} nest d r s ls h a =
    ap (λ (o : Option (List A × List Lexeme)). o >>= λ x. more_branches r (nest.branch x.0) x.1) (row_same nest d r s ls h a)
    ∙ same_bind (length ls) (row_by nest s ls) (λ x. more_branches r (nest.branch x.0) x.1) (λ x. more_branches s (nest.branch x.0) x.1) (row_less nest d s h ls)
    (λ x l. more_same r s (length ls) (nest.branch x.0) x.1 l a)

level_same : {A B : Type 0} (nest : Nest A B) → GoesDown nest → (n m k : ℕ) → k ≤ n → k ≤ m → Agree k (level nest n) (level nest m)
unfolding level
level_same nest d zero m k l h = record { row = λ ls t. absurd (let no : ⊥ = omega arith in no); branches = λ ls t. absurd (let no : ⊥ = omega arith in no) }
level_same nest d (suc n) zero k l h = record { row = λ ls t. absurd (let no : ⊥ = omega arith in no); branches = λ ls t. absurd (let no : ⊥ = omega arith in no) }
level_same nest d (suc n) (suc m) k l h = record {
  row = λ ls t. row_same nest d (level nest n) (level nest m) ls (level_shrinks nest d m) (level_same nest d n m (length ls) (omega arith) (omega arith));
  branches = λ ls t. branches_same nest d (level nest n) (level nest m) ls (level_shrinks nest d m) (level_same nest d n m (length ls) (omega arith) (omega arith));
}

level_of : {A B : Type 0} (nest : Nest A B) → GoesDown nest → (n : ℕ) → Agree n (level nest n) (readers nest)
unfolding readers
level_of nest d n = record {
  row = λ ls t. (level_same nest d n (suc (length ls)) (suc (length ls)) (omega arith) (omega arith)).row ls (omega arith);
  branches = λ ls t. (level_same nest d n (suc (length ls)) (suc (length ls)) (omega arith) (omega arith)).branches ls (omega arith);
}

pub readers_shrink : {A B : Type 0} (nest : Nest A B) → GoesDown nest → Shrinks (readers nest)
unfolding readers
readers_shrink nest d = record { row = λ ls. (level_shrinks nest d (suc (length ls))).row ls; branches = λ ls. (level_shrinks nest d (suc (length ls))).branches ls }

pub row_is : {A B : Type 0} (nest : Nest A B) → GoesDown nest → (ls : List Lexeme) → (readers nest).row ls ≡ row_by nest (readers nest) ls
unfolding readers level
row_is nest d ls = row_same nest d (level nest (length ls)) (readers nest) ls (readers_shrink nest d) (level_of nest d (length ls))

pub branches_are : {A B : Type 0} (nest : Nest A B) → GoesDown nest → (ls : List Lexeme) → (readers nest).branches ls ≡ branches_by nest (readers nest) ls
unfolding readers level
branches_are nest d ls = branches_same nest d (level nest (length ls)) (readers nest) ls (readers_shrink nest d) (level_of nest d (length ls))

pub item_shrinks : {A B : Type 0} (nest : Nest A B) → GoesDown nest → (ls : List Lexeme) → Less (length ls) (nest.item (readers nest) ls)
item_shrinks nest d ls = d.less (readers nest) (readers_shrink nest d) ls
