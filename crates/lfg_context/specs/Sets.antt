-- Sets of assignments, as contracts speak of them.
use Rattle.std.specs.Prelude.{◌≡◌, ◌≢◌, ℕ, ◌+◌, ◌<◌, ◌≤◌, ◌⊎◌, Bool, true, false, List, [], ◌∷◌, length, map, slice_index, slice_index_or}
use Rattle.lfg_terms.specs.declared.choice.Choice.{Choice}
use Rattle.lfg_choice.specs.Choices.{alternatives_of}
use Rattle.lfg_model.specs.Lists.{In}
use Rattle.lfg_context.specs.Cubes.{Pin, in_cubes, taken, set_at}
use Rattle.lfg_context.specs.Seen.{Set, Known}

-- An alternative for each choice; choices and alternatives are counted from 0. An alternative that a
-- choice does not have stands for its last one, `taken a c n` for a choice of n alternatives.
abbrev pub Assignment : Type 0
Assignment = ℕ → ℕ

-- whether the assignment is in the set
unfoldable pub member : Set → Assignment → Bool
member x a = in_cubes x.1 a

-- the number of alternatives with which the choice was picked; 0 where it was not
unfoldable pub arity_of : Known → ℕ → ℕ
arity_of k c = slice_index_or k.1 c 0

-- the two assignments take the same alternative of each choice
abbrev pub TakeAlike : (ℕ → ℕ) → Assignment → Assignment → Type 0
TakeAlike ar a b = (c : ℕ) → taken a c (ar c) ≡ taken b c (ar c)

-- the cubes of a number
abbrev pub cubes_in : List Set → ℕ → List (List Pin)
cubes_in sets n = slice_index_or ([] ∷ ([] ∷ []) ∷ map (λ x. x.1) sets) n []

-- What `IsMade` says of the representation: the set has a number, and the cubes of that number; and
-- it reads of an assignment only what it takes of each choice.
unfoldable pub IsInTable : Known → Set → Type 0
IsInTable k x =
    (x.0 < length k.0 + 2) × (x.1 ≡ cubes_in k.0 x.0)
    × ((a b : Assignment) → TakeAlike (arity_of k) a b → member x a ≡ member x b)

-- What `IsGrown` says of the representation: numbers keep their cubes, and choices that were picked
-- their number of alternatives.
unfoldable pub IsLater : Known → Known → Type 0
IsLater k l =
    (length k.0 ≤ length l.0) × ((n : ℕ) → n < length k.0 + 2 → cubes_in l.0 n ≡ cubes_in k.0 n)
    × ((c : ℕ) → 2 ≤ arity_of k c → arity_of l c ≡ arity_of k c)

-- the set was made by these contexts
pub record IsMade (k : Known) (x : Set) : Type 0 where
  pub in_table : IsInTable k x

-- the contexts l are the contexts k some calls later: what was made and picked before still is
pub record IsGrown (k l : Known) : Type 0 where
  pub later : IsLater k l

-- the same choices were picked, with the same numbers of alternatives
pub record HasSamePicks (k l : Known) : Type 0 where
  pub arities : (c : ℕ) → arity_of l c ≡ arity_of k c

-- a set of these contexts that has these members
pub record IsSetOf (k : Known) (x : Set) (p : Assignment → Bool) : Type 0 where
  pub made : IsMade k x
  pub members : (a : Assignment) → member x a ≡ p a

-- The sets of a list of things were made by these contexts, where each thing has the set `set_of`.
pub record AreMade {X : Type 0} (k : Known) (set_of : X → Set) (xs : List X) : Type 0 where
  pub each : (x : X) → In x xs → IsMade k (set_of x)

-- Each choice of the space that these contexts have picked was picked with its number of alternatives
-- in the space.
pub record HasPicksOf (k : Known) (space : List Choice) : Type 0 where
  pub agrees : (c : ℕ) → c < length space → arity_of k c ≢ 0 → arity_of k c ≡ alternatives_of space c

-- no assignment is in the set, or each one is
abbrev pub IsConstant : Set → Type 0
IsConstant x = ((a : Assignment) → member x a ≡ false) ⊎ ((a : Assignment) → member x a ≡ true)

-- membership does not depend on the choice: no other alternative of it changes anything
abbrev pub IsBlindTo : Set → ℕ → Type 0
IsBlindTo x c = (a : Assignment) (v : ℕ) → member x a ≡ member x (set_at a c v)

-- membership depends on the choice
abbrev pub Reads : Set → ℕ → Type 0
Reads x c = IsBlindTo x c → ⊥

-- the first choice on which membership depends
pub record IsFirstChoice (x : Set) (c : ℕ) : Type 0 where
  pub reads : Reads x c
  pub blind : (e : ℕ) → e < c → IsBlindTo x e

-- membership depends on the first n choices alone
pub record DependsOnFirst (n : ℕ) (x : Set) : Type 0 where
  pub blind : (c : ℕ) → n ≤ c → IsBlindTo x c

-- The set is one of the choices of the space: it depends on these alone, and each on which it depends
-- was picked with its number of alternatives in the space.
pub record IsOver (k : Known) (space : List Choice) (x : Set) : Type 0 where
  pub depends : DependsOnFirst (length space) x
  pub picked : (c : ℕ) → c < length space → Reads x c → arity_of k c ≡ alternatives_of space c

-- an assignment, written as a list: the alternative of the choice c stands at the place c
abbrev pub assigned : List ℕ → Assignment
assigned xs c = slice_index xs c

-- The list is the least member of the set among the assignments of the space, compared from the first
-- choice on: a member that is the same before a choice does not take a lesser alternative there.
pub record IsLeast (space : List Choice) (x : Set) (xs : List ℕ) : Type 0 where
  pub len : length xs ≡ length space
  pub within : (c : ℕ) → c < length space → slice_index xs c < alternatives_of space c
  pub is_member : member x (assigned xs) ≡ true
  pub least : (a : Assignment) → member x a ≡ true → (c : ℕ) → c < length space
      → ((e : ℕ) → e < c → a e ≡ slice_index xs e) → slice_index xs c ≤ a c
