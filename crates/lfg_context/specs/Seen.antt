-- What contracts see of a set of assignments, and of the contexts that made it. What stands here is
-- the representation: other crates speak of it by the words of the module Sets alone.
use Rattle.std.specs.Prelude.{ℕ, List, length, map}
use Rattle.lfg_context.specs.Cubes.{Pin, glued}

-- a set: the number of its node, and its cubes
abbrev pub Set : Type 0
Set = ℕ × List (List Pin)

-- contexts: their sets in the order of their numbers, from 2 on, and the number of alternatives of
-- each choice
abbrev pub Known : Type 0
Known = List Set × List ℕ

-- the cubes of a node that tests the choice and has these children
abbrev pub cubes_of_node : ℕ → List Set → List (List Pin)
cubes_of_node c ks = glued c (length ks) 0 (map (λ k. k.1) ks)
