-- Numbers that are divided into classes by given pairs and arcs. A class goes by its least number.
use Rattle.std.specs.Prelude.{◌≡◌, ◌↔◌, ◌⊎◌, ℕ, zero, suc, ◌≤◌, List, [], ◌∷◌, length, map, Some, slice_get}
use Rattle.lfg_model.specs.Lists.{In}
use Rattle.lfg_model.specs.Equal.{Equal}
use Rattle.lfg_model.specs.Terms.{Name}
use Rattle.lfg_solve.specs.declared.classes.Arc.{Arc}

-- the numbers below a number
abbrev pub numbers : ℕ → List ℕ
numbers zero = []
numbers (suc n) = n ∷ numbers n

abbrev pub ends : Arc → ℕ × Name × ℕ
ends arc = (arc.from, arc.attribute, arc.to)

-- the least equality of the numbers below the count that the pairs and arcs force
abbrev pub EqualNumbers : ℕ → List (ℕ × ℕ) → List Arc → ℕ → ℕ → Type 0
EqualNumbers count given arcs = Equal (numbers count) given (map ends arcs)

-- two numbers have one label
pub data OneClass (labels : List ℕ) (i j : ℕ) : Type 0 where
  by_label : {k : ℕ} → slice_get labels i ≡ Some k → slice_get labels j ≡ Some k → OneClass labels i j

-- a label is the least number that has it
pub record AreLeast (labels : List ℕ) : Type 0 where
  pub each : (i k : ℕ) → slice_get labels i ≡ Some k → (k ≤ i) × (slice_get labels k ≡ Some k)

-- numbers of one class stay in one
pub record Grows (old new : List ℕ) : Type 0 where
  pub each : (i j : ℕ) → OneClass old i j → OneClass new i j

-- the classes of a and b have become one, and no others have
pub record Joins (old : List ℕ) (a b : ℕ) (new : List ℕ) : Type 0 where
  pub grown : Grows old new
  pub both : OneClass new a b
  pub alone : (i j : ℕ) → OneClass new i j
      → OneClass old i j ⊎ ((OneClass old i a × OneClass old b j) ⊎ (OneClass old i b × OneClass old a j))
  pub least : AreLeast old → AreLeast new

-- classes that hold no more than the pairs and arcs force
pub record IsDivision (count : ℕ) (given : List (ℕ × ℕ)) (arcs : List Arc) (labels : List ℕ) : Type 0 where
  pub covers : length labels ≡ count
  pub least : AreLeast labels
  pub forced : (i j : ℕ) → OneClass labels i j → EqualNumbers count given arcs i j

-- the numbers of each pair are of one class
pub record HoldsGiven (given : List (ℕ × ℕ)) (labels : List ℕ) : Type 0 where
  pub each : (a b : ℕ) → In (a, b) given → OneClass labels a b

-- the arc leads to one class with all arcs by its attribute from its class
pub record Meets (labels : List ℕ) (arc : Arc) (arcs : List Arc) : Type 0 where
  pub each : (other : Arc) → In other arcs → OneClass labels arc.from other.from → arc.attribute ≡ other.attribute → OneClass labels arc.to other.to

pub record MeetsAll (labels : List ℕ) (front arcs : List Arc) : Type 0 where
  pub each : (arc : Arc) → In arc front → Meets labels arc arcs

-- The labels tell the classes of the numbers below the count: two numbers have one label exactly
-- where the pairs and arcs force them to be equal, and that is the least of their class.
pub record Divides (count : ℕ) (given : List (ℕ × ℕ)) (arcs : List Arc) (labels : List ℕ) : Type 0 where
  pub covers : length labels ≡ count
  pub least : AreLeast labels
  pub exact : (i j : ℕ) → OneClass labels i j ↔ EqualNumbers count given arcs i j
