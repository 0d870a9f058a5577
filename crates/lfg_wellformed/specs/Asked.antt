-- Completeness and coherence, asked of the closure of literals in contexts.
use Rattle.std.specs.Prelude.{◌≡◌, ◌⊎◌, ℕ, true, List}
use Rattle.lfg_terms.specs.declared.node.Node.{Node}
use Rattle.lfg_terms.specs.declared.grammar.Form.{Form}
use Rattle.lfg_terms.specs.declared.literal.Site.{Site}
use Rattle.lfg_terms.specs.declared.literal.Literal.{Literal}
use Rattle.lfg_model.specs.declared.constant.Constant.{Constant}
use Rattle.lfg_model.specs.declared.constant.Constant.TheVariants as constant
use Rattle.lfg_model.specs.Lists.{In}
use Rattle.lfg_model.specs.Terms.{Name}
use Rattle.lfg_model.specs.Solve.{pred}
use Rattle.lfg_context.specs.Seen.{Set, Known}
use Rattle.lfg_context.specs.Sets.{Assignment, member}
use Rattle.lfg_context.specs.Telling.{InSome, OfAll}
use Rattle.lfg_unify.specs.Closures.{Closed, place_in, equal_at, IsClosureOf}

-- the closure is that of some literals in these contexts
pub record IsClosure (c : Known) (k : Closed) : Type 0 where
  pub literals : List (Literal × Set)
  pub is : IsClosureOf c literals k

-- an arc, a value and a member with their contexts
abbrev pub Arc : Type 0
Arc = Node × Name × Node × Set

abbrev pub Value : Type 0
Value = Node × Constant × Set

abbrev pub Member : Type 0
Member = Node × Node × Set

-- the arc is one by the name, holds, and leaves a node equal to that at the place
pub record LeadsBy (k : Closed) (place : ℕ) (name : Name) (r : Arc) (a : Assignment) : Type 0 where
  pub name_is : r.1 ≡ name
  pub holds : member r.3 a ≡ true
  pub same : member (equal_at k place (place_in k.nodes r.0)) a ≡ true

-- the class of the node at the place has an arc by the name
abbrev pub HasArcBy : Closed → ℕ → Name → Assignment → Type 0
HasArcBy k place name = InSome k.arcs (LeadsBy k place name)

-- the member holds, and its set is a node equal to that at the place
pub record IsMemberIn (k : Closed) (place : ℕ) (m : Member) (a : Assignment) : Type 0 where
  pub holds : member m.2 a ≡ true
  pub same : member (equal_at k place (place_in k.nodes m.1)) a ≡ true

-- the class of the node at the place has a member
abbrev pub HasMemberIn : Closed → ℕ → Assignment → Type 0
HasMemberIn k place = InSome k.members (IsMemberIn k place)

-- the class has a PRED arc or a member
pub record HasContent (k : Closed) (place : ℕ) (a : Assignment) : Type 0 where
  pub content : HasArcBy k place pred a ⊎ HasMemberIn k place a

-- the arc is one by the name from the class, and leads to one with a PRED arc or a member
pub record IsFilling (k : Closed) (place : ℕ) (name : Name) (r : Arc) (a : Assignment) : Type 0 where
  pub leads : LeadsBy k place name r a
  pub content : HasContent k (place_in k.nodes r.2) a

-- where the set holds, the class has the function: filled, or only there
pub record NeedsFilled (k : Closed) (place : ℕ) (set : Set) (name : Name) (a : Assignment) : Type 0 where
  pub needs : member set a ≡ true → InSome k.arcs (IsFilling k place name) a

pub record NeedsArc (k : Closed) (place : ℕ) (set : Set) (name : Name) (a : Assignment) : Type 0 where
  pub needs : member set a ≡ true → HasArcBy k place name a

-- where the set holds, the class has all functions of the form
pub record HasFunctions (k : Closed) (place : ℕ) (set : Set) (form : Form) (a : Assignment) : Type 0 where
  pub inner : OfAll form.inner (NeedsFilled k place set) a
  pub outer : OfAll form.outer (NeedsArc k place set) a

-- where the arc and the value hold and the arc leads to the value, the class that the arc leaves has all
-- functions of the value, if that is a form
pub record CompletesValue (k : Closed) (r : Arc) (v : Value) (a : Assignment) : Type 0 where
  pub functions : (form : Form) (site : Site) (index : ℕ) → v.1 ≡ constant.Form form site index → member r.3 a ≡ true → member v.2 a ≡ true
      → member (equal_at k (place_in k.nodes r.2) (place_in k.nodes v.0)) a ≡ true
      → ((g : Name) → In g form.inner → InSome k.arcs (IsFilling k (place_in k.nodes r.0) g) a) × ((g : Name) → In g form.outer → HasArcBy k (place_in k.nodes r.0) g a)

-- if the arc is PRED, it is so of all values
pub record CompletesArc (k : Closed) (r : Arc) (a : Assignment) : Type 0 where
  pub each : r.1 ≡ pred → OfAll k.values (CompletesValue k r) a

-- the form names the function
abbrev pub Names : Form → Name → Type 0
Names form name = In name form.inner ⊎ In name form.outer

-- the value is a form that names the function and holds, at a node equal to that at the place
pub record NamesAt (k : Closed) (place : ℕ) (name : Name) (v : Value) (a : Assignment) : Type 0 where
  pub form : Form
  pub site : Site
  pub index : ℕ
  pub is : v.1 ≡ constant.Form form site index
  pub names : Names form name
  pub holds : member v.2 a ≡ true
  pub same : member (equal_at k place (place_in k.nodes v.0)) a ≡ true

-- the arc is PRED, leaves the class and leads to a form that names the function
pub record IsNaming (k : Closed) (place : ℕ) (name : Name) (r : Arc) (a : Assignment) : Type 0 where
  pub leads : LeadsBy k place pred r a
  pub named : InSome k.values (NamesAt k (place_in k.nodes r.2) name) a

-- the class has a member and no PRED arc
pub record IsExempt (k : Closed) (place : ℕ) (a : Assignment) : Type 0 where
  pub has_member : HasMemberIn k place a
  pub no_pred : ¬ HasArcBy k place pred a

-- where the arc holds, its function is named by the form of the class that it leaves, or that class is exempt
pub record GovernsArc (k : Closed) (r : Arc) (a : Assignment) : Type 0 where
  pub governed : member r.3 a ≡ true → InSome k.arcs (IsNaming k (place_in k.nodes r.0) r.1) a ⊎ IsExempt k (place_in k.nodes r.0) a

-- the same, if the function is a governable one
pub record CoheresAt (k : Closed) (governable : List Name) (r : Arc) (a : Assignment) : Type 0 where
  pub governed : In r.1 governable → GovernsArc k r a
