-- What the program holds, as the definitions see it: the parts of a derivation, and the instance of an
-- annotation.
use Rattle.std.specs.Prelude.{ℕ, Option, Some, None, List, [], ◌∷◌}
use Rattle.std.specs.declared.boxed.Box.{Box}
use Rattle.std.specs.Global.{Global}
use Rattle.lfg_terms.specs.declared.tree.Derivation.{Derivation}
use Rattle.lfg_terms.specs.declared.tree.Part.{Part}
use Rattle.lfg_model.specs.Terms.{Parts, no_part, empty, daughter, tree_of}
use Rattle.lfg_model.specs.Resolve.{Instance}
use Rattle.lfg_solve.specs.declared.resolve.Instance as held

-- a part before others: an empty item, or a daughter
abbrev pub part_before : ℕ → List ℕ → Option (Box Derivation Global) → Parts → Parts
part_before occ picks None rest = empty occ picks rest
part_before occ picks (Some below) rest = daughter occ picks (tree_of below.value) rest

-- the parts of an inner node
abbrev pub parts_from : List Part → Parts
parts_from [] = no_part
parts_from (part ∷ rest) = part_before part.occ part.picks.items part.below (parts_from rest)

-- an instance of an annotation
abbrev pub instance_of : held.Instance → Instance
instance_of it = record { up = it.up.now; down = it.down.now; site = it.site.now }
