-- What holds of a list of things in contexts.
use Rattle.std.specs.Prelude.{List, [], ◌∷◌, if◌then◌else◌}
use Rattle.lfg_context.specs.Seen.{Set}
use Rattle.lfg_context.specs.Sets.{Assignment, member}

-- the things whose set has the assignment, in order
abbrev pub holding : {X : Type 0} → List (X × Set) → Assignment → List X
holding [] a = []
holding (x ∷ xs) a = if member x.1 a then x.0 ∷ holding xs a else holding xs a

-- things with what stands beside them
abbrev pub beside : {X : Type 0} → List X → List Set → List (X × Set)
beside [] sets = []
beside (x ∷ xs) [] = []
beside (x ∷ xs) (set ∷ sets) = (x, set) ∷ beside xs sets
