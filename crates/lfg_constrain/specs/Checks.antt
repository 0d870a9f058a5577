-- Constraints, asked of the closure of literals in contexts.
use Rattle.std.specs.Prelude.{◌≡◌, ◌⊎◌, ℕ, Bool, true, false, ◌&&◌, not, List, if◌then◌else◌}
use Rattle.lfg_terms.specs.declared.node.Node.{Node}
use Rattle.lfg_terms.specs.declared.literal.Check.{Check}
use Rattle.lfg_terms.specs.declared.literal.Literal.{Literal}
use Rattle.lfg_model.specs.declared.constant.Constant.{Constant}
use Rattle.lfg_model.specs.declared.constant.Constant.TheVariants as constant
use Rattle.lfg_model.specs.Lists.{In}
use Rattle.lfg_model.specs.Terms.{Name}
use Rattle.lfg_model.specs.Literals.{checks, checks_of}
use Rattle.lfg_model.specs.Solve.{solution, Holds}
use Rattle.lfg_context.specs.Seen.{Set}
use Rattle.lfg_context.specs.Sets.{Assignment, member}
use Rattle.lfg_context.specs.Telling.{InSome}
use Rattle.lfg_unify.specs.Closures.{Row, Closed, place_in, closure_at}
use Rattle.lfg_unify.specs.Holding.{holding}
use Rattle.lfg_constrain.specs.Spots.{Touches}

-- Each constraint of the literals that hold at the assignment is true in their solution.
pub record AreSatisfied (literals : List (Literal × Set)) (a : Assignment) : Type 0 where
  pub each : (c : Check) → In c (checks (holding literals a)) → Holds (solution (holding literals a)) c

-- the value is this atom and holds, and some spot is at its node
pub record IsValued (k : Closed) (spots : Row) (name : Name) (v : Node × Constant × Set) (a : Assignment) : Type 0 where
  pub is : v.1 ≡ constant.Atom name
  pub touched : Touches k spots (place_in k.nodes v.0) v.2 a

-- the spot holds, and some other one is at an equal node
pub record IsShared (k : Closed) (spots : Row) (spot : ℕ × Set) (a : Assignment) : Type 0 where
  pub touched : Touches k spots spot.0 spot.1 a

-- the value is an atom that the spots on the left have, and those on the right too
pub record IsCommon (k : Closed) (left right : Row) (v : Node × Constant × Set) (a : Assignment) : Type 0 where
  pub name : Name
  pub is : v.1 ≡ constant.Atom name
  pub left_has : Touches k left (place_in k.nodes v.0) v.2 a
  pub right_has : InSome k.values (IsValued k right name) a

-- the spots are at one node, or at two with one atom
pub record Agreement (k : Closed) (left right : Row) (a : Assignment) : Type 0 where
  pub agree : InSome right (IsShared k left) a ⊎ InSome k.values (IsCommon k left right) a

-- the spot holds
pub record IsOn (spot : ℕ × Set) (a : Assignment) : Type 0 where
  pub holds : member spot.1 a ≡ true

-- where a constraint fails: it is there, and the plain one is false, or for a negated one true
abbrev pub fails_at : Bool → Bool → Bool → Bool
fails_at negated there plain = if negated then plain else (there && not plain)

-- where the set holds, the constraint is true
pub record Passes (k : Closed) (c : Check) (set : Set) (a : Assignment) : Type 0 where
  pub passes : member set a ≡ true → Holds (closure_at k a) c

-- where the literal holds, it is true if it is a constraint
pub record PassesAll (k : Closed) (l : Literal × Set) (a : Assignment) : Type 0 where
  pub each : (c : Check) → In c (checks_of l.0) → Passes k c l.1 a
