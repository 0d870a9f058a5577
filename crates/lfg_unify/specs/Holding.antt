-- What holds in contexts.
use Rattle.std.specs.Prelude.{◌≡◌, true, List, [], ◌∷◌, if◌then◌else◌}
use Rattle.lfg_terms.specs.declared.literal.Literal.{Literal}
use Rattle.lfg_model.specs.Lists.{In}
use Rattle.lfg_context.specs.Seen.{Set}
use Rattle.lfg_context.specs.Sets.{Assignment, member}

-- what of a list holds at the assignment: that whose context has it, in order
abbrev pub holding : {X : Type 0} → List (X × Set) → Assignment → List X
holding [] a = []
holding (x ∷ xs) a = if member x.1 a then x.0 ∷ holding xs a else holding xs a

-- the literals, whatever their contexts
abbrev pub literals_of : List (Literal × Set) → List Literal
literals_of [] = []
literals_of (l ∷ ls) = l.0 ∷ literals_of ls

-- x is stated in a context that has the assignment
pub record Stated {X : Type 0} (xs : List (X × Set)) (a : Assignment) (x : X) : Type 0 where
  pub set : Set
  pub listed : In (x, set) xs
  pub holds : member set a ≡ true
