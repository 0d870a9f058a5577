-- Lists of things with the sets of assignments at which they stand: what is added to them.
use Rattle.std.specs.Prelude.{◌≡◌, ◌↔◌, ◌⊎◌, true, List}
use Rattle.lfg_terms.specs.declared.literal.Literal.{Literal}
use Rattle.lfg_model.specs.Lists.{In}
use Rattle.lfg_context.specs.Seen.{Set, Known}
use Rattle.lfg_context.specs.Sets.{Assignment, member}
use Rattle.lfg_unify.specs.Closures.{Closed, IsClosureOf}
use Rattle.lfg_unify.specs.Holding.{Stated}

-- the closure is that of some literals in these contexts
pub record IsClosure (c : Known) (k : Closed) : Type 0 where
  pub literals : List (Literal × Set)
  pub is : IsClosureOf c literals k

-- new has what old has, and each thing at the assignments at which P is true of it
pub record Adds {X : Type 0} (old new : List (X × Set)) (P : X → Assignment → Type 0) : Type 0 where
  pub each : (a : Assignment) (x : X) → Stated new a x ↔ (Stated old a x ⊎ P x a)

-- no set of the list is empty
pub record AreSome {X : Type 0} (xs : List (X × Set)) : Type 0 where
  pub each : (e : X × Set) → In e xs → (a : Assignment) × (member e.1 a ≡ true)
