-- Walks from class to class by their numbers, and what constraints ask of them.
use Rattle.std.specs.Prelude.{◌≡◌, ◌⊎◌, ℕ, Bool, true, false, List, [], ◌∷◌}
use Rattle.lfg_terms.specs.declared.node.Node.{Node}
use Rattle.lfg_terms.specs.declared.literal.Walk.{Walk}
use Rattle.lfg_terms.specs.declared.literal.Literal.{Literal}
use Rattle.lfg_model.specs.declared.constant.Constant.{Constant}
use Rattle.lfg_model.specs.declared.constant.Constant.TheVariants as constant
use Rattle.lfg_model.specs.Lists.{In}
use Rattle.lfg_model.specs.Solve.{Reaches, solution}
use Rattle.lfg_model.specs.Terms.{Name, Path}
use Rattle.lfg_solve.specs.declared.classes.Arc.{Arc}
use Rattle.lfg_solve.specs.declared.solution.Value.{Value}
use Rattle.lfg_solve.specs.declared.solution.Solution.{Solution}
use Rattle.lfg_solve.specs.Found.{SomeOf}
use Rattle.lfg_solve.specs.Solves.{ClassOf}

-- an arc leads from the one class by the attribute to the other
abbrev pub HasArcTo : List Arc → ℕ → Name → ℕ → Type 0
HasArcTo arcs i a j = In (record { from = i; attribute = a; to = j }) arcs

-- the arcs that leave a class by one attribute lead to one class
pub record OneTarget (arcs : List Arc) : Type 0 where
  pub one : (i : ℕ) (a : Name) (j k : ℕ) → HasArcTo arcs i a j → HasArcTo arcs i a k → j ≡ k

-- the path leads from the one class along arcs to the other
abbrev pub LeadsAlong : List Arc → ℕ → Path → ℕ → Type 0
LeadsAlong arcs i [] k = i ≡ k
LeadsAlong arcs i (a ∷ p) k = (j : ℕ) × HasArcTo arcs i a j × LeadsAlong arcs j p k

-- one of the paths leads from the one class to the other
pub record LeadsBySome (arcs : List Arc) (i : ℕ) (paths : List Path) (k : ℕ) : Type 0 where
  pub path : Path
  pub listed : In path paths
  pub leads : LeadsAlong arcs i path k

-- The numbers are the classes to which the paths lead from the class. That all of them are there is
-- said only where the arcs that leave a class by one attribute lead to one class.
pub record AreReached (arcs : List Arc) (i : ℕ) (paths : List Path) (classes : List ℕ) : Type 0 where
  pub sound : (k : ℕ) → In k classes → LeadsBySome arcs i paths k
  pub all : OneTarget arcs → (k : ℕ) → LeadsBySome arcs i paths k → In k classes

-- the value is the atom, of the class
pub record IsAtomOf (class : ℕ) (atom : Name) (value : Value) : Type 0 where
  pub of : value.class ≡ class
  pub is : value.constant ≡ constant.Atom atom

-- the constant is an atom that the class has as a value
abbrev pub IsAtomIn : List Value → ℕ → Constant → Type 0
IsAtomIn values class (constant.Atom a) = SomeOf (IsAtomOf class a) values
IsAtomIn values class (constant.Form f s i) = ⊥

-- the value is of the one class and an atom that the other one has as well
pub record IsSharedAtom (values : List Value) (one other : ℕ) (value : Value) : Type 0 where
  pub of : value.class ≡ one
  pub shared : IsAtomIn values other value.constant

-- one class, or two with one atom
abbrev pub AreMatching : List Value → ℕ → ℕ → Type 0
AreMatching values one other = (one ≡ other) ⊎ SomeOf (IsSharedAtom values one other) values

-- the statement, or that it is false
abbrev pub Unless : Bool → Type 0 → Type 0
Unless false P = P
Unless true P = ¬ P

-- the numbers are those of the classes to which the walk leads
pub record AreReachedBy (ls : List Literal) (s : Solution) (walk : Walk) (classes : List ℕ) : Type 0 where
  pub sound : (k : ℕ) → In k classes → (z : Node) × ClassOf s z k × Reaches (solution ls) walk z
  pub all : (k : ℕ) (z : Node) → ClassOf s z k → Reaches (solution ls) walk z → In k classes
