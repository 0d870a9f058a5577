-- Readers of what stands in front of a row of lexemes, and nests: items in rows, one behind
-- another, and rows as branches in braces, which may stand inside items again.
use Rattle.std.specs.Prelude.{ℕ, zero, suc, Bool, true, false, cond, Option, Some, None, List, [], ◌∷◌, length}
use Rattle.lfg_model.specs.declared.lexeme.Lexeme.{Lexeme}
use Rattle.lfg_model.specs.declared.lexeme.Lexeme.TheVariants.{Bar, CloseBrace}

infixl 10 ◌>>=◌
-- what comes of the thing that was found, if one was
abbrev pub ◌>>=◌ : {A B : Type 0} → Option A → (A → Option B) → Option B
(Some x) >>= f = f x
None >>= f = None

-- a reader of what stands in front: it, and what is behind it
abbrev pub Reader : Type 0 → Type 0
Reader A = List Lexeme → Option (A × List Lexeme)

-- the readers of a nest that call each other: of a row of items, and of the branches of such rows
-- up to the brace that closes them
pub record Readers (A B : Type 0) : Type 0 where
  pub row : Reader (List A)
  pub branches : Reader (List B)

-- a kind of nest: its items, where the rows and branches inside an item are read by the readers
-- given; whether an item begins here; and a row as a branch
pub record Nest (A B : Type 0) : Type 0 where
  pub item : Readers A B → Reader A
  pub begins : List Lexeme → Bool
  pub branch : List A → B

-- one thing more in front of a list
abbrev pub put : {X : Type 0} → X → Option (List X × List Lexeme) → Option (List X × List Lexeme)
put x o = o >>= λ r. Some (x ∷ r.0, r.1)

-- one thing alone
abbrev pub alone : {X : Type 0} → X → Reader (List X)
alone x ls = Some (x ∷ [], ls)

-- one or more items, as long as one begins
abbrev pub row_by : {A B : Type 0} → Nest A B → Readers A B → Reader (List A)
row_by nest r ls = nest.item r ls >>= λ x. cond (nest.begins x.1) (put x.0 (r.row x.1)) (alone x.0 x.1)

-- behind a branch: a bar and further branches, or the closing brace
abbrev pub more_branches : {A B : Type 0} → Readers A B → B → Reader (List B)
more_branches r b (Bar ∷ ls) = put b (r.branches ls)
more_branches r b (CloseBrace ∷ ls) = alone b ls
more_branches r b ls = None

-- a bar or a closing brace is in front
abbrev pub ends_branch : List Lexeme → Bool
ends_branch (Bar ∷ ls) = true
ends_branch (CloseBrace ∷ ls) = true
ends_branch ls = false

-- one or more branches, and the closing brace
abbrev pub branches_by : {A B : Type 0} → Nest A B → Readers A B → Reader (List B)
branches_by nest r ls = row_by nest r ls >>= λ x. more_branches r (nest.branch x.0) x.1

-- the readers whose calls go at most so deep
unfoldable pub level : {A B : Type 0} → Nest A B → ℕ → Readers A B
level nest zero = record { row = λ ls. None; branches = λ ls. None }
level nest (suc n) = record { row = row_by nest (level nest n); branches = branches_by nest (level nest n) }

-- The readers of a nest. Calls go as deep as there are lexemes, which is as deep as they can.
unfoldable pub readers : {A B : Type 0} → Nest A B → Readers A B
readers nest = record { row = λ ls. (level nest (suc (length ls))).row ls; branches = λ ls. (level nest (suc (length ls))).branches ls }
