-- The facts of the f-structures of a closure, at all assignments at once.
use Rattle.std.specs.Prelude.{◌≡◌, ◌↔◌, ◌⊎◌, ℕ, suc, ◌<◌, true, List, [], ◌∷◌, slice_get, Some, codes, decimal}
use Rattle.lfg_terms.specs.declared.node.Node.{Node}
use Rattle.lfg_terms.specs.declared.node.Arg as arg
use Rattle.lfg_terms.specs.declared.node.Arg.{Arg}
use Rattle.lfg_terms.specs.declared.node.Fact.{Fact}
use Rattle.lfg_terms.specs.declared.grammar.Form.{Form}
use Rattle.lfg_terms.specs.declared.literal.Site.{Site}
use Rattle.lfg_model.specs.declared.constant.Constant.{Constant}
use Rattle.lfg_model.specs.declared.constant.Constant.TheVariants as constant
use Rattle.lfg_model.specs.Lists.{In}
use Rattle.lfg_model.specs.Terms.{Name}
use Rattle.lfg_model.specs.Solve.{pred}
use Rattle.lfg_model.specs.Readings.{IsFact, has_attribute}
use Rattle.lfg_context.specs.Seen.{Set, Known}
use Rattle.lfg_context.specs.Sets.{Assignment, member, IsMade}
use Rattle.lfg_context.specs.Telling.{InSome}
use Rattle.lfg_unify.specs.Closures.{Closed, place_in, equal_at, closure_at}
use Rattle.lfg_unify.specs.Holding.{Stated}
use Rattle.lfg_facts.specs.Naming.{Names, names_in}

-- facts with the sets of assignments at which they are facts
abbrev pub Entries : Type 0
Entries = List (Fact × Set)

-- the set of the entry was made by these contexts, and is not empty
pub record IsEntry (c : Known) (e : Fact × Set) : Type 0 where
  pub made : IsMade c e.1
  pub some : (a : Assignment) × (member e.1 a ≡ true)

pub record AreEntries (c : Known) (es : Entries) : Type 0 where
  pub each : (e : Fact × Set) → In e es → IsEntry c e

-- the relation holds between the first name and the second, within the set
pub record IsPair (relation : Name) (first : Arg) (here : Set) (f : Fact) (second : Arg × Set) (a : Assignment) : Type 0 where
  pub is : f ≡ has_attribute relation first second.0
  pub within : member here a ≡ true
  pub named : member second.1 a ≡ true

-- the relation holds between the first name and one of the second ones, within the set
pub record IsPairOf (relation : Name) (seconds : Names) (here : Set) (f : Fact) (first : Arg × Set) (a : Assignment) : Type 0 where
  pub second : Arg
  pub is : f ≡ has_attribute relation first.0 second
  pub within : member here a ≡ true
  pub named : member first.1 a ≡ true
  pub other_named : Stated seconds a second

-- the relation holds between names of the two lists, within both sets
pub record IsRelated (relation : Name) (firsts seconds : Names) (good here : Set) (f : Fact) (a : Assignment) : Type 0 where
  pub first : Arg
  pub second : Arg
  pub is : f ≡ has_attribute relation first second
  pub within : member good a ≡ true
  pub holds : member here a ≡ true
  pub named : Stated firsts a first
  pub other_named : Stated seconds a second

-- the fact is that of the arc, within the set
abbrev pub IsArcFact : Closed → List Names → Set → Fact → Node × Name × Node × Set → Assignment → Type 0
IsArcFact k table good f arc a = IsRelated arc.1 (names_in table (place_in k.nodes arc.0)) (names_in table (place_in k.nodes arc.2)) good arc.3 f a

-- the fact is that of the member, within the set
abbrev pub IsMemberFact : Closed → List Names → Set → Fact → Node × Node × Set → Assignment → Type 0
IsMemberFact k table good f m a = IsRelated (codes "in_set") (names_in table (place_in k.nodes m.0)) (names_in table (place_in k.nodes m.1)) good m.2 f a

-- the fact that the relation holds between a name, a number and a function
abbrev pub function_fact : Name → Arg → ℕ → Name → Fact
function_fact relation c k g = record { rel = relation; args = c ∷ arg.Atom (decimal k) ∷ arg.Atom g ∷ [] }

-- The relation holds between the name, the number of one of the functions, counted from 1, and the
-- function.
pub record IsNumbered (relation : Name) (functions : List Name) (c : Arg) (f : Fact) : Type 0 where
  pub number : ℕ
  pub function : Name
  pub at : slice_get functions number ≡ Some function
  pub is : f ≡ function_fact relation c (suc number) function

-- the same of the functions before a number, within the set
pub record IsFunctionBelow (count : ℕ) (relation : Name) (functions : List Name) (c : Arg) (here : Set) (f : Fact) (a : Assignment) : Type 0 where
  pub numbered : IsNumbered relation functions c f
  pub below : numbered.number < count
  pub within : member here a ≡ true

-- the same of all functions
pub record IsFunctionIn (relation : Name) (functions : List Name) (c : Arg) (here : Set) (f : Fact) (a : Assignment) : Type 0 where
  pub numbered : IsNumbered relation functions c f
  pub within : member here a ≡ true

-- a function of the form stands at its number beside the name
abbrev pub IsOfForm : Form → Arg → Fact → Type 0
IsOfForm form c f = IsNumbered (codes "arg") form.inner c f ⊎ IsNumbered (codes "nonarg") form.outer c f

-- a function of the form stands at its number beside the name, within the set
pub record IsFormOf (form : Form) (here : Set) (f : Fact) (name : Arg × Set) (a : Assignment) : Type 0 where
  pub states : IsOfForm form name.0 f
  pub within : member here a ≡ true
  pub named : member name.1 a ≡ true

-- a function of the form stands at its number beside one of the names, within the set
pub record IsFormFact (form : Form) (names : Names) (here : Set) (f : Fact) (a : Assignment) : Type 0 where
  pub name : Arg
  pub named : Stated names a name
  pub within : member here a ≡ true
  pub states : IsOfForm form name f

-- the value is a form of an equal of the node at the place, and the fact is of it, within the set
pub record IsValueFact (k : Closed) (place : ℕ) (names : Names) (here : Set) (f : Fact) (value : Node × Constant × Set) (a : Assignment) : Type 0 where
  pub form : Form
  pub site : Site
  pub index : ℕ
  pub is_form : value.1 ≡ constant.Form form site index
  pub holds : member value.2 a ≡ true
  pub same : member (equal_at k place (place_in k.nodes value.0)) a ≡ true
  pub states : IsFormFact form names here f a

-- The arc is one by PRED, and the fact is of a form of an equal of the node at the place, its target,
-- beside one of the names, within the set.
pub record IsPredOf (k : Closed) (target : ℕ) (names : Names) (good : Set) (f : Fact) (arc : Node × Name × Node × Set) (a : Assignment) : Type 0 where
  pub by_pred : arc.1 ≡ pred
  pub holds : member arc.3 a ≡ true
  pub value : InSome k.values (IsValueFact k target names good f) a

-- the fact is of a form of the target of the arc beside a name of its source, within the set
abbrev pub IsPredFact : Closed → List Names → Set → Fact → Node × Name × Node × Set → Assignment → Type 0
IsPredFact k table good f arc a = IsPredOf k (place_in k.nodes arc.2) (names_in table (place_in k.nodes arc.0)) good f arc a

-- the fact is one of the closure by its lists, within the set
abbrev pub IsListed : Closed → List Names → Set → Fact → Assignment → Type 0
IsListed k table good f a =
    InSome k.arcs (IsArcFact k table good f) a ⊎ (InSome k.members (IsMemberFact k table good f) a ⊎ InSome k.arcs (IsPredFact k table good f) a)

-- At each assignment of the set, the facts that stand in the list are those of the closure; at others
-- there are none.
pub record AreFactsOf (k : Closed) (good : Set) (facts : Entries) : Type 0 where
  pub each : (a : Assignment) (f : Fact) → Stated facts a f ↔ ((member good a ≡ true) × IsFact (closure_at k a) f)
