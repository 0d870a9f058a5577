-- Where values clash, by places.
use Rattle.std.specs.Prelude.{◌≡◌, ◌≢◌, ◌⊎◌, ℕ, true, List}
use Rattle.lfg_model.specs.declared.constant.Constant.{Constant}
use Rattle.lfg_context.specs.Seen.{Set}
use Rattle.lfg_context.specs.Sets.{Assignment, member}
use Rattle.lfg_context.specs.Telling.{InSome}
use Rattle.lfg_unify.specs.Closures.{Row}
use Rattle.lfg_unify.specs.Rows.{Has}

-- a value of a place, with its context
abbrev pub Placed : Type 0
Placed = (ℕ × Constant) × Set

-- two values that differ hold of paired places
pub record Differs (rows : List Row) (first second : Placed) (a : Assignment) : Type 0 where
  pub apart : first.0.1 ≢ second.0.1
  pub first_holds : member first.1 a ≡ true
  pub second_holds : member second.1 a ≡ true
  pub same : Has rows a first.0.0 second.0.0

-- a value holds of a place, and something else of a paired place
pub record IsBeside (rows : List Row) (first : Placed) (second : ℕ × Set) (a : Assignment) : Type 0 where
  pub first_holds : member first.1 a ≡ true
  pub second_holds : member second.1 a ≡ true
  pub same : Has rows a first.0.0 second.0

-- the value meets another one that differs, or the source of an arc, or a set
pub record Clashes (rows : List Row) (all : List Placed) (sources sets : List (ℕ × Set)) (first : Placed) (a : Assignment) : Type 0 where
  pub meets : InSome all (Differs rows first) a ⊎ (InSome sources (IsBeside rows first) a ⊎ InSome sets (IsBeside rows first) a)
