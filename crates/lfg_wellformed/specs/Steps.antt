-- Steps down, from a place to a place, at all assignments at once, and how many can follow each other.
use Rattle.std.specs.Prelude.{◌≡◌, ◌↔◌, ◌⊎◌, ℕ, zero, suc, ◌<◌, true, List, ◌++◌, length, map, slice_index_or}
use Rattle.lfg_terms.specs.declared.node.Node.{Node}
use Rattle.lfg_model.specs.Lists.{In}
use Rattle.lfg_model.specs.Terms.{Name}
use Rattle.lfg_context.specs.Seen.{Set}
use Rattle.lfg_context.specs.Sets.{Assignment, member}
use Rattle.lfg_context.specs.Telling.{Tells}
use Rattle.lfg_unify.specs.Closures.{Closed, place_in, equal_at}

-- from a place to a place, with its context
abbrev pub Move : Type 0
Move = (ℕ × ℕ) × Set

-- a step along an arc, and one from a set to a member
abbrev pub arc_step : Closed → Node × Name × Node × Set → Move
arc_step k r = ((place_in k.nodes r.0, place_in k.nodes r.2), r.3)

abbrev pub member_step : Closed → Node × Node × Set → Move
member_step k m = ((place_in k.nodes m.1, place_in k.nodes m.0), m.2)

-- all steps of a closure
abbrev pub steps_of : Closed → List Move
steps_of k = map (arc_step k) k.arcs ++ map (member_step k) k.members

-- P is true of some place that is equal to this one
pub record LeadsOn (k : Closed) (P : ℕ → Assignment → Type 0) (place : ℕ) (a : Assignment) : Type 0 where
  pub next : ℕ
  pub below : next < length k.nodes
  pub same : member (equal_at k place next) a ≡ true
  pub holds : P next a

-- some step from the place holds, and P is true of some place that is equal to its end
pub record StepsOn (k : Closed) (steps : List Move) (P : ℕ → Assignment → Type 0) (place : ℕ) (a : Assignment) : Type 0 where
  pub step : Move
  pub listed : In step steps
  pub from : step.0.0 ≡ place
  pub holds : member step.1 a ≡ true
  pub on : LeadsOn k P step.0.1 a

-- so many steps can be taken from the place, one after the other
abbrev pub Lasts : Closed → ℕ → ℕ → Assignment → Type 0
Lasts k zero place a = Unit {0}
Lasts k (suc n) place a = StepsOn k (steps_of k) (Lasts k n) place a

-- the assignment is in the set at the place
abbrev pub IsIn : Set → List Set → ℕ → Assignment → Type 0
IsIn none sets place a = member (slice_index_or sets place none) a ≡ true

-- the sets tell, place by place, where P is true of the place
pub record TellsEach (count : ℕ) (P : ℕ → Assignment → Type 0) (sets : List Set) : Type 0 where
  pub len : length sets ≡ count
  pub each : (j : ℕ) (d : Set) → j < count → Tells (slice_index_or sets j d) (P j)

-- the sets tell from which places so many steps can be taken
abbrev pub AreLasting : Closed → ℕ → List Set → Type 0
AreLasting k n = TellsEach (length k.nodes) (Lasts k n)

-- an entry of a row holds, and so does the set at its place
pub record EntryLeads (none : Set) (sets : List Set) (entry : ℕ × Set) (a : Assignment) : Type 0 where
  pub entry_holds : member entry.1 a ≡ true
  pub set_holds : IsIn none sets entry.0 a

-- the new sets have what the old ones have, and at the place from which the step leads where it holds and
-- leads on
pub record AddsStep (k : Closed) (step : Move) (P : ℕ → Assignment → Type 0) (old new : List Set) : Type 0 where
  pub len : length new ≡ length old
  pub each : (j : ℕ) (d : Set) (a : Assignment) → j < length old
      → (member (slice_index_or new j d) a ≡ true) ↔ ((member (slice_index_or old j d) a ≡ true) ⊎ ((step.0.0 ≡ j) × (member step.1 a ≡ true) × LeadsOn k P step.0.1 a))

-- where steps hold, their ends are places of nodes
pub record AreWithin (k : Closed) (steps : List Move) : Type 0 where
  pub each : (a : Assignment) (s : Move) → In s steps → member s.1 a ≡ true → (s.0.0 < length k.nodes) × (s.0.1 < length k.nodes)

-- the assignment is in the set
pub record IsOn (set : Set) (a : Assignment) : Type 0 where
  pub holds : member set a ≡ true
