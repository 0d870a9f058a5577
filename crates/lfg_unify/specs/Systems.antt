-- Systems of equations between places, and how tables of pairs grow by their rules.
use Rattle.std.specs.Prelude.{◌≡◌, ◌↔◌, ◌⊎◌, ℕ, ◌<◌, ◌≤◌, true, List, length}
use Rattle.lfg_model.specs.Lists.{In}
use Rattle.lfg_model.specs.Terms.{Name}
use Rattle.lfg_model.specs.Equal.{Equal}
use Rattle.lfg_model.specs.Rounds.{Round, AreBetween}
use Rattle.lfg_context.specs.Seen.{Set, Known}
use Rattle.lfg_context.specs.Sets.{Assignment, member, AreMade}
use Rattle.lfg_unify.specs.declared.system.System.{System}
use Rattle.lfg_unify.specs.Closures.{Row}
use Rattle.lfg_unify.specs.Rows.{Has}
use Rattle.lfg_unify.specs.Holding.{holding, Stated}

-- an arc between places, with its context
abbrev pub Arc : Type 0
Arc = (ℕ × Name × ℕ) × Set

module _ (s : System) (a : Assignment) where
  -- the places are equal by what holds at the assignment
  abbrev pub EqualIn : ℕ → ℕ → Type 0
  EqualIn = Equal (holding s.there.items a) (holding s.given.items a) (holding s.arcs.items a)

  -- the same by so many rounds
  abbrev pub RoundIn : ℕ → ℕ → ℕ → Type 0
  RoundIn = Round (holding s.there.items a) (holding s.given.items a) (holding s.arcs.items a)

-- what a system states is between the places that are there, and these are below the count
pub record IsSystem (count : ℕ) (s : System) : Type 0 where
  pub between : (a : Assignment) → AreBetween (holding s.there.items a) (holding s.given.items a) (holding s.arcs.items a)
  pub there : (e : ℕ × Set) → In e s.there.items → e.0 < count
  pub given : (e : (ℕ × ℕ) × Set) → In e s.given.items → (e.0.0 < count) × (e.0.1 < count)
  pub arcs : (e : Arc) → In e s.arcs.items → (e.0.0 < count) × (e.0.2 < count)

-- the sets of a system were made by these contexts
pub record AreSystemSets (k : Known) (s : System) : Type 0 where
  pub there : AreMade k (λ e. e.1) s.there.items
  pub given : AreMade k (λ e. e.1) s.given.items
  pub arcs : AreMade k (λ e. e.1) s.arcs.items

-- the arcs are between places below the count
pub record AreWithin (count : ℕ) (arcs : List Arc) : Type 0 where
  pub each : (e : Arc) → In e arcs → (e.0.0 < count) × (e.0.2 < count)

-- each pair that holds is equal in the system
pub record IsSound (s : System) (rows : List Row) : Type 0 where
  pub each : (a : Assignment) (i j : ℕ) → Has rows a i j → EqualIn s a i j

-- The new table keeps what the old one has, and has nothing that systems with these arcs do not force,
-- where the old one has not.
pub record IsGrowth (arcs : List Arc) (old new : List Row) : Type 0 where
  pub len : length new ≡ length old
  pub keeps : (a : Assignment) (i j : ℕ) → Has old a i j → Has new a i j
  pub sound : (s : System) → s.arcs.items ≡ arcs → IsSound s old → IsSound s new

-- two arcs by one attribute hold, and their sources are paired
pub record IsLinked (first second : Arc) (rows : List Row) (a : Assignment) : Type 0 where
  pub name : first.0.1 ≡ second.0.1
  pub first_holds : member first.1 a ≡ true
  pub second_holds : member second.1 a ≡ true
  pub sources : Has rows a first.0.0 second.0.0

-- what is paired through a place in the old table is paired in the new one
pub record IsJoined (old new : List Row) : Type 0 where
  pub each : (a : Assignment) (i j y : ℕ) → Has old a i j → Has old a j y → Has new a i y

-- the targets of linked arcs are paired in the new table
pub record AreLinked (firsts seconds : List Arc) (old new : List Row) : Type 0 where
  pub each : (a : Assignment) (p q : Arc) → In p firsts → In q seconds → IsLinked p q old a → Has new a p.0.2 q.0.2

-- the table has what so many rounds give
pub record HasRounds (s : System) (n : ℕ) (rows : List Row) : Type 0 where
  pub each : (a : Assignment) (i j : ℕ) → RoundIn s a n i j → Has rows a i j

-- the rules add nothing to the table
pub record IsClosed (s : System) (rows : List Row) : Type 0 where
  pub joined : IsJoined rows rows
  pub linked : AreLinked s.arcs.items s.arcs.items rows rows

-- the new table has what the old one has, and each place that is stated with itself
pub record AddsThere (there : List (ℕ × Set)) (old new : List Row) : Type 0 where
  pub each : (a : Assignment) (x y : ℕ) → Has new a x y ↔ (Has old a x y ⊎ ((x ≡ y) × Stated there a x))

-- the new table has what the old one has, and each pair that is stated, both ways
pub record AddsGiven (given : List ((ℕ × ℕ) × Set)) (old new : List Row) : Type 0 where
  pub each : (a : Assignment) (x y : ℕ) → Has new a x y ↔ (Has old a x y ⊎ (Stated given a (x, y) ⊎ Stated given a (y, x)))

-- the table has all pairs that are equal in the system
pub record HasEqual (s : System) (rows : List Row) : Type 0 where
  pub each : (a : Assignment) (i j : ℕ) → EqualIn s a i j → Has rows a i j

-- the table has exactly the pairs that are equal in the system
pub record Solves (s : System) (rows : List Row) : Type 0 where
  pub sound : IsSound s rows
  pub all : HasEqual s rows
