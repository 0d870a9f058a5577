-- The good assignments in pieces.
use Rattle.std.specs.Prelude.{◌≡◌, ℕ, true, ◌⊎◌, List, [], ◌∷◌, ◌++◌, map}
use Rattle.lfg_terms.specs.declared.node.Fact.{Fact}
use Rattle.lfg_model.specs.declared.pair.Pair.{Pair}
use Rattle.lfg_model.specs.Lists.{In}
use Rattle.lfg_context.specs.Seen.{Set, Known}
use Rattle.lfg_context.specs.Sets.{Assignment, member, AreMade, DependsOnFirst}
use Rattle.lfg_store.specs.Facts.{Entries}
use Rattle.lfg_store.specs.Unpacking.{pair_of}

-- the sets were made by these contexts
abbrev pub AllMade : Known → List Set → Type 0
AllMade k xs = AreMade k (λ x. x) xs

-- the sets depend on the first n choices alone
pub record AllDepend (n : ℕ) (xs : List Set) : Type 0 where
  pub each : (x : Set) → In x xs → DependsOnFirst n x

-- each of the sets has both assignments or neither
abbrev pub Agree : List Set → Assignment → Assignment → Type 0
Agree xs a b = (x : Set) → In x xs → member x a ≡ member x b

-- all assignments of the piece are in the set, or none is
pub record IsSettled (piece by : Set) : Type 0 where
  pub same : (a b : Assignment) → member piece a ≡ true → member piece b ≡ true → member by a ≡ member by b

-- each of the sets stands in the second list or is settled in the piece
pub record Settles (piece : Set) (sets left : List Set) : Type 0 where
  pub each : (x : Set) → In x sets → In x left ⊎ IsSettled piece x

-- the set was added, or it is settled in the piece
pub data IsSifted (piece set : Set) (old : List Set) : List Set → Type 0 where
  settled : {new : List Set} → IsSettled piece set → new ≡ old → IsSifted piece set old new
  added : {new : List Set} → new ≡ old ++ set ∷ [] → IsSifted piece set old new

-- the sets tell the pairs of the piece's assignments apart
pub record TellsPairs (tree facts : Entries) (piece : Set) (sets : List Set) : Type 0 where
  pub tells : (a b : Assignment) → member piece a ≡ true → member piece b ≡ true → Agree sets a b → pair_of tree facts a ≡ pair_of tree facts b

-- the pair is that of an assignment of the piece
pub record IsPairIn (tree facts : Entries) (piece : Set) (pair : Pair) : Type 0 where
  pub assignment : Assignment
  pub stands : member piece assignment ≡ true
  pub is : pair_of tree facts assignment ≡ pair

-- the pairs of the piece's assignments were added
pub record Covers (tree facts : Entries) (piece : Set) (old new : List Pair) : Type 0 where
  pub kept : (pair : Pair) → In pair old → In pair new
  pub sound : (pair : Pair) → In pair new → In pair old ⊎ IsPairIn tree facts piece pair
  pub all : (a : Assignment) → member piece a ≡ true → In (pair_of tree facts a) new

-- a set with the same members stands among these
pub record IsAmong (sets : List Set) (x : Set) : Type 0 where
  pub set : Set
  pub stands : In set sets
  pub same : (a : Assignment) → member x a ≡ member set a

-- so for each context of the entries
pub record AreAmong (sets : List Set) (es : Entries) : Type 0 where
  pub each : (e : Fact × Set) → In e es → IsAmong sets e.1

-- each set of the first list stands in the second
abbrev pub Includes : List Set → List Set → Type 0
Includes xs ys = (x : Set) → In x xs → In x ys

-- the contexts of the entries were added to the sets, but for those that are the same as another
pub record Gathers (es : Entries) (old new : List Set) : Type 0 where
  pub kept : Includes old new
  pub among : AreAmong new es
  pub only : (x : Set) → In x new → In x old ⊎ In x (map (λ e. e.1) es)
