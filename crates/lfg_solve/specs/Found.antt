-- What a search through a list finds.
use Rattle.std.specs.Prelude.{◌≡◌, ◌≢◌, ◌⊎◌, ℕ, List}
use Rattle.lfg_terms.specs.declared.grammar.Form.{Form}
use Rattle.lfg_model.specs.declared.constant.Constant.{Constant}
use Rattle.lfg_model.specs.declared.constant.Constant.TheVariants as constant
use Rattle.lfg_model.specs.Lists.{In}
use Rattle.lfg_model.specs.Solve.{pred}
use Rattle.lfg_model.specs.Terms.{Name}
use Rattle.lfg_solve.specs.declared.classes.Arc.{Arc}
use Rattle.lfg_solve.specs.declared.solution.Value.{Value}
use Rattle.lfg_solve.specs.declared.solution.Membership.{Membership}

-- some element has P
pub record SomeOf {X : Type 0} (P : X → Type 0) (xs : List X) : Type 0 where
  pub at : X
  pub listed : In at xs
  pub holds : P at

-- each element has P
pub record EachOf {X : Type 0} (P : X → Type 0) (xs : List X) : Type 0 where
  pub each : (x : X) → In x xs → P x

-- the value is of the class, and another one than the constant
pub record IsOther (class : ℕ) (constant : Constant) (value : Value) : Type 0 where
  pub of : value.class ≡ class
  pub differs : value.constant ≢ constant

abbrev pub Leaves : ℕ → Arc → Type 0
Leaves class arc = arc.from ≡ class

-- the arc leaves the class by the attribute
pub record LeadsBy (class : ℕ) (attribute : Name) (arc : Arc) : Type 0 where
  pub start : arc.from ≡ class
  pub name : arc.attribute ≡ attribute

abbrev pub IsMemberIn : ℕ → Membership → Type 0
IsMemberIn class member = member.set ≡ class

-- the value stands beside another one, beside an arc or beside a member
abbrev pub StandsBeside : List Value → List Arc → List Membership → Value → Type 0
StandsBeside values arcs members value =
    SomeOf (IsOther value.class value.constant) values ⊎ (SomeOf (Leaves value.class) arcs ⊎ SomeOf (IsMemberIn value.class) members)

-- the class has a PRED arc or is a set with a member
abbrev pub IsFilled : List Arc → List Membership → ℕ → Type 0
IsFilled arcs members class = SomeOf (LeadsBy class pred) arcs ⊎ SomeOf (IsMemberIn class) members

-- the arc leads from the class by the attribute to such a class
pub record IsFilledBy (arcs : List Arc) (members : List Membership) (class : ℕ) (attribute : Name) (arc : Arc) : Type 0 where
  pub leads : LeadsBy class attribute arc
  pub filled : IsFilled arcs members arc.to

-- the class has the functions that the form names
pub record HasFunctions (arcs : List Arc) (members : List Membership) (class : ℕ) (form : Form) : Type 0 where
  pub inner : EachOf (λ g. SomeOf (IsFilledBy arcs members class g) arcs) form.inner
  pub outer : EachOf (λ g. SomeOf (LeadsBy class g) arcs) form.outer

-- the functions that the constant names, which is none at an atom
abbrev pub HasFunctionsOf : List Arc → List Membership → ℕ → Constant → Type 0
HasFunctionsOf arcs members class (constant.Atom a) = Unit {0}
HasFunctionsOf arcs members class (constant.Form f s i) = HasFunctions arcs members class f

abbrev pub IsMet : List Arc → List Membership → ℕ → ℕ → Value → Type 0
IsMet arcs members class target value = value.class ≡ target → HasFunctionsOf arcs members class value.constant

-- where the arc leads to a form, the class that it leaves has the functions of the form
abbrev pub IsCompleteAt : List Value → List Arc → List Membership → Arc → Type 0
IsCompleteAt values arcs members arc = arc.attribute ≡ pred → EachOf (IsMet arcs members arc.from arc.to) values

-- the constant is a form that names the function
abbrev pub Names : Name → Constant → Type 0
Names g (constant.Atom a) = ⊥
Names g (constant.Form f s i) = In g f.inner ⊎ In g f.outer

pub record IsNaming (target : ℕ) (g : Name) (value : Value) : Type 0 where
  pub of : value.class ≡ target
  pub names : Names g value.constant

-- the arc leads from the class to a form that names the function
pub record IsGovernedBy (values : List Value) (class : ℕ) (g : Name) (arc : Arc) : Type 0 where
  pub leads : LeadsBy class pred arc
  pub names : SomeOf (IsNaming arc.to g) values

-- the class is a set with a member, and without PRED
pub record IsExempt (arcs : List Arc) (members : List Membership) (class : ℕ) : Type 0 where
  pub has_member : SomeOf (IsMemberIn class) members
  pub no_pred : ¬ SomeOf (LeadsBy class pred) arcs

abbrev pub IsCoherentAt : List Name → List Value → List Arc → List Membership → Arc → Type 0
IsCoherentAt governable values arcs members arc =
    In arc.attribute governable → SomeOf (IsGovernedBy values arc.from arc.attribute) arcs ⊎ IsExempt arcs members arc.from
