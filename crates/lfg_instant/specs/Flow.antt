-- Contexts that flow from place to place.
use Rattle.std.specs.Prelude.{◌≡◌, ◌↔◌, ℕ, ◌<◌, Bool, true, false, ◌&&◌, ◌||◌, Some, List, [], ◌∷◌, map, slice_get, slice_index_or, slice_set}
use Rattle.lfg_context.specs.Seen.{Set}
use Rattle.lfg_context.specs.Sets.{Assignment, member}
use Rattle.lfg_model.specs.Lists.{In}
use Rattle.lfg_instant.specs.declared.flow.Passage.{Passage}

-- The places that an assignment reaches: the root, and over a passage whose pick has the assignment
-- its end from its start.
pub data Flows (passages : List Passage) (picks : List Set) (root : ℕ) (a : Assignment) : ℕ → Type 0 where
  at_root : Flows passages picks root a root
  along : (p : Passage) (pick : Set) → In p passages → slice_get picks p.pick ≡ Some pick → member pick a ≡ true → Flows passages picks root a p.from → Flows passages picks root a p.to

-- each place has exactly the assignments that reach it
pub record IsFlow (passages : List Passage) (picks : List Set) (root : ℕ) (found : List Set) : Type 0 where
  pub exact : (i : ℕ) (x : Set) → slice_get found i ≡ Some x → (a : Assignment) → (member x a ≡ true) ↔ Flows passages picks root a i

-- the passage's places and its pick are among so many
abbrev pub IsWithin : ℕ → ℕ → Passage → Type 0
IsWithin places picks p = (p.from < places) × (p.pick < picks) × (p.to < places)

-- and those of each passage
pub record AreWithin (places picks : ℕ) (passages : List Passage) : Type 0 where
  pub each : (p : Passage) → In p passages → IsWithin places picks p

-- what some sets hold at an assignment
abbrev pub at : List Set → Assignment → List Bool
at xs a = map (λ x. member x a) xs

-- whether it is held at a place
abbrev pub held : List Bool → ℕ → Bool
held bs i = slice_index_or bs i false

-- The places that hold after a passage was taken, where the first list says which picks hold and the
-- second which places did.
abbrev pub after : List Bool → Passage → List Bool → List Bool
after qs p bs = slice_set bs p.to (held bs p.to || (held bs p.from && held qs p.pick))

-- and after each was taken in turn
abbrev pub after_all : List Bool → List Passage → List Bool → List Bool
after_all qs [] bs = bs
after_all qs (p ∷ ps) bs = after_all qs ps (after qs p bs)
