-- Arcs and pairs between numbers that stay below a number.
use Rattle.std.specs.Prelude.{ℕ, ◌+◌, ◌<◌, ◌==◌, if◌then◌else◌, List, [], ◌∷◌, All}
use Rattle.lfg_solve.specs.declared.classes.Arc.{Arc}

abbrev pub IsWithin : ℕ → ℕ → ℕ → Type 0
IsWithin count a b = (a < count) × (b < count)

-- the arcs go between numbers below the count
abbrev pub ArcsWithin : ℕ → List Arc → Type 0
ArcsWithin count arcs = All (λ arc. IsWithin count arc.from arc.to) arcs

-- the pairs are of numbers below the count
abbrev pub GivenWithin : ℕ → List (ℕ × ℕ) → Type 0
GivenWithin count given = All (λ pair. IsWithin count pair.0 pair.1) given

-- the name of a number's class after the class `high` has become a part of the class `low`
abbrev pub relabelled : ℕ → ℕ → ℕ → ℕ
relabelled high low label = if label == high then low else label

-- the sum of the labels, which falls with each joining
abbrev pub total : List ℕ → ℕ
total [] = 0
total (x ∷ xs) = x + total xs
