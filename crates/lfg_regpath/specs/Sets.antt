-- Sets of strings as lists, and the answers of what makes them.
use Rattle.std.specs.Prelude.{◌≡◌, ℕ, ◌≤◌, ◌↔◌, List, ◌++◌, length}
use Rattle.std.specs.List.{insert}
use Rattle.std.specs.List.Sorted.{IsStrictlySortedBy}
use Rattle.lfg_terms.specs.PathOrder.{path_cmp}
use Rattle.lfg_model.specs.Lists.{In}
use Rattle.lfg_model.specs.Terms.{Path}
use Rattle.lfg_model.specs.PathExpressions.{Joins, MoreThan, Repeats}
use Rattle.lfg_regpath.specs.declared.fault.PathFault.{PathFault}
use Rattle.lfg_regpath.specs.declared.fault.PathFault.TheVariants.{TooManyPaths, NoPath, Memory}

-- at most 256 strings in order, each once
pub record IsSet (xs : List Path) : Type 0 where
  pub ascends : IsStrictlySortedBy path_cmp xs
  pub few : length xs ≤ 256

-- the set of the strings with P in order, of which there are at most 256
pub record Holds (P : Path → Type 0) (xs : List Path) : Type 0 where
  pub ascends : IsStrictlySortedBy path_cmp xs
  pub few : length xs ≤ 256
  pub exact : (w : Path) → In w xs ↔ P w

-- p is not there, and its place in order is the one with this index
pub record IsPlace (xs : List Path) (p : Path) (i : ℕ) : Type 0 where
  pub within : i ≤ length xs
  pub absent : In p xs → ⊥
  pub ascends : IsStrictlySortedBy path_cmp (insert xs i p)

-- the fault of what was to make the set of the strings with P: there are too many, or memory ended
abbrev pub Overfull : (Path → Type 0) → PathFault → Type 0
Overfull P TooManyPaths = MoreThan 256 P
Overfull P NoPath = ⊥
Overfull P Memory = Unit {0}

-- w is u and v behind it, with at most this number of attributes
pub record IsPair (u v : Path) (limit : ℕ) (w : Path) : Type 0 where
  pub is : w ≡ u ++ v
  pub short : length w ≤ limit

-- w is a string of xs and one of ys behind it, with at most this number of attributes
pub record IsJoin (xs ys : List Path) (limit : ℕ) (w : Path) : Type 0 where
  pub joins : Joins (λ u. In u xs) (λ v. In v ys) w
  pub short : length w ≤ limit

-- w is one or more strings of xs joined, with at most this number of attributes
pub record IsRepeat (xs : List Path) (limit : ℕ) (w : Path) : Type 0 where
  pub joins : Joins (λ u. In u xs) (Repeats (λ u. In u xs)) w
  pub short : length w ≤ limit
