-- Steps down between the numbers of classes, and the numbers that a search has marked.
use Rattle.std.specs.Prelude.{◌≡◌, ◌⊎◌, ℕ, ◌<◌, Bool, true, List, Some, slice_get, length}
use Rattle.lfg_model.specs.Lists.{In}
use Rattle.lfg_solve.specs.declared.classes.Arc.{Arc}
use Rattle.lfg_solve.specs.declared.solution.Membership.{Membership}

-- one step down: along an arc, or from a set to a member
pub data Descends (arcs : List Arc) (members : List Membership) (i j : ℕ) : Type 0 where
  by_arc : {arc : Arc} → In arc arcs → arc.from ≡ i → arc.to ≡ j → Descends arcs members i j
  to_member : {member : Membership} → In member members → member.set ≡ i → member.item ≡ j → Descends arcs members i j

-- all steps down are between numbers below the count
pub record AreWithin (count : ℕ) (arcs : List Arc) (members : List Membership) : Type 0 where
  pub each : (i j : ℕ) → Descends arcs members i j → (i < count) × (j < count)

-- one step down or more
pub data IsUnder (arcs : List Arc) (members : List Membership) : ℕ → ℕ → Type 0 where
  one : {i j : ℕ} → Descends arcs members i j → IsUnder arcs members i j
  more : {i k j : ℕ} → Descends arcs members i k → IsUnder arcs members k j → IsUnder arcs members i j

-- the number is one of the marked ones
abbrev pub IsMarked : List Bool → ℕ → Type 0
IsMarked marks k = slice_get marks k ≡ Some true

-- all marked numbers are under the class
pub record AreUnder (arcs : List Arc) (members : List Membership) (class : ℕ) (marks : List Bool) : Type 0 where
  pub each : (k : ℕ) → IsMarked marks k → IsUnder arcs members class k

-- where the one number is the class or is marked, the other is marked, if there is a mark for it
pub record Passes (class : ℕ) (marks : List Bool) (from to : ℕ) : Type 0 where
  pub passes : (from ≡ class) ⊎ IsMarked marks from → to < length marks → IsMarked marks to

-- the number has been marked, and no other
pub record Marks (before : List Bool) (p : ℕ) (after : List Bool) : Type 0 where
  pub marked : IsMarked after p
  pub alone : (k : ℕ) → IsMarked after k → IsMarked before k ⊎ (k ≡ p)

-- the ends of all steps along arcs from the class and from marked numbers are marked
pub record PassesArcs (class : ℕ) (marks : List Bool) (arcs : List Arc) : Type 0 where
  pub each : (arc : Arc) → In arc arcs → Passes class marks arc.from arc.to

-- the members of the class and of marked numbers are marked
pub record PassesMembers (class : ℕ) (marks : List Bool) (members : List Membership) : Type 0 where
  pub each : (member : Membership) → In member members → Passes class marks member.set member.item
