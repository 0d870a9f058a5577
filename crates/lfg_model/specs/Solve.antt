-- The solution of a list of literals, and the conditions that it has to meet (Kaplan and Bresnan
-- 1982). The conditions speak of four relations alone, so that they can be asked of whatever has
-- these relations.
use Rattle.std.specs.Prelude.{◌≢◌, ◌↔◌, ℕ, ◌*◌, ◌⊎◌, true, false, List, [], ◌∷◌, length, codes}
use Rattle.lfg_terms.specs.declared.node.Node.{Node}
use Rattle.lfg_terms.specs.declared.grammar.Form.{Form}
use Rattle.lfg_terms.specs.declared.literal.Site.{Site}
use Rattle.lfg_terms.specs.declared.literal.Walk.{Walk}
use Rattle.lfg_terms.specs.declared.literal.Target.{Target}
use Rattle.lfg_terms.specs.declared.literal.Target.TheVariants as target
use Rattle.lfg_terms.specs.declared.literal.Check.{Check}
use Rattle.lfg_terms.specs.declared.literal.Check.TheVariants as check
use Rattle.lfg_terms.specs.declared.literal.Literal.{Literal}
use Rattle.lfg_model.specs.declared.constant.Constant.{Constant}
use Rattle.lfg_model.specs.declared.constant.Constant.TheVariants as constant
use Rattle.lfg_model.specs.Lists.{In}
use Rattle.lfg_model.specs.Terms.{Name, Path}
use Rattle.lfg_model.specs.Equal.{Equal}
use Rattle.lfg_model.specs.Rounds.{Round}
use Rattle.lfg_model.specs.Literals.{nodes, arcs, given, values, members}

-- A solution, as the relations between nodes that it has. A class is a node with all nodes that
-- are the same; what is said of a node is said of its class.
pub record Solution : Type 1 where
  -- the two nodes are of one class
  pub same : Node → Node → Type 0
  -- the class of the first has an arc by the attribute to the class of the second
  pub arc : Node → Name → Node → Type 0
  -- the class has the constant
  pub value : Node → Constant → Type 0
  -- the class of the first, a set, has the class of the second as a member
  pub member : Node → Node → Type 0

-- The solution of a list of literals: equal nodes are the same, and what is stated of a node is so
-- of its whole class.
module _ (ls : List Literal) where
  abbrev pub SameNode : Node → Node → Type 0
  SameNode = Equal (nodes ls) (given ls) (arcs ls)

  pub data HasArc (x : Node) (a : Name) (t : Node) : Type 0 where
    arc : {n u : Node} → SameNode x n → In (n, a, u) (arcs ls) → SameNode u t → HasArc x a t

  pub data HasValue (x : Node) (c : Constant) : Type 0 where
    value : {n : Node} → SameNode x n → In (n, c) (values ls) → HasValue x c

  pub data HasMember (x : Node) (m : Node) : Type 0 where
    member : {n k : Node} → SameNode x n → In (k, n) (members ls) → SameNode k m → HasMember x m

  abbrev pub solution : Solution
  solution = record { same = SameNode; arc = HasArc; value = HasValue; member = HasMember }

-- two solutions with the same relations; whatever is said of one is then true of the other
pub record AreAlike (y z : Solution) : Type 0 where
  pub same : (x u : Node) → y.same x u ↔ z.same x u
  pub arc : (x : Node) (a : Name) (t : Node) → y.arc x a t ↔ z.arc x a t
  pub value : (x : Node) (c : Constant) → y.value x c ↔ z.value x c
  pub member : (x m : Node) → y.member x m ↔ z.member x m

-- the attribute of semantic forms
abbrev pub pred : Name
pred = codes "PRED"

module _ (y : Solution) where
  -- Uniqueness fails: two constants that differ meet in a class, or a constant meets an arc or a
  -- member there.
  pub data Clash : Type 0 where
    two_values : {x : Node} {c d : Constant} → y.value x c → y.value x d → c ≢ d → Clash
    beside_arc : {x t : Node} {a : Name} {c : Constant} → y.value x c → y.arc x a t → Clash
    beside_member : {x m : Node} {c : Constant} → y.value x c → y.member x m → Clash

  -- a path leads from a node to a class, along arcs of classes
  abbrev pub LeadsTo : Node → Path → Node → Type 0
  LeadsTo x [] z = y.same x z
  LeadsTo x (a ∷ p) z = (t : Node) × y.arc x a t × LeadsTo t p z

  -- one of the strings of a walk leads to the class
  abbrev pub Reaches : Walk → Node → Type 0
  Reaches w z = (p : Path) × In p w.paths × LeadsTo w.start p z

  -- one class, or two classes with one atom
  abbrev pub Match : Node → Node → Type 0
  Match z u = y.same z u ⊎ ((a : Name) × y.value z (constant.Atom a) × y.value u (constant.Atom a))

  -- the walk leads to the atom, or to where the other walk leads
  abbrev pub Agrees : Walk → Target → Type 0
  Agrees w (target.Atom a) = (z : Node) × Reaches w z × y.value z (constant.Atom a)
  Agrees w (target.Walk v) = (z : Node) × (u : Node) × Reaches w z × Reaches v u × Match z u

  -- the walk leads somewhere
  abbrev pub LeadsSomewhere : Walk → Type 0
  LeadsSomewhere w = (z : Node) × Reaches w z

  -- the constraint is true; a negated one just where the plain one is false
  abbrev pub Holds : Check → Type 0
  Holds (check.Same false w t) = Agrees w t
  Holds (check.Same true w t) = ¬ Agrees w t
  Holds (check.Exists false w) = LeadsSomewhere w
  Holds (check.Exists true w) = ¬ LeadsSomewhere w

  -- one step down: along an arc, or from a set to a member
  pub data Step (x t : Node) : Type 0 where
    by_arc : {a : Name} → y.arc x a t → Step x t
    to_member : y.member x t → Step x t

  -- one step down, or more
  pub data Below : Node → Node → Type 0 where
    one_step : {x t : Node} → Step x t → Below x t
    more_steps : {x z t : Node} → Step x z → Below z t → Below x t

  -- no class is below itself
  abbrev pub IsAcyclic : Type 0
  IsAcyclic = (x : Node) → ¬ Below x x

  -- the class has a PRED arc
  abbrev pub HasPred : Node → Type 0
  HasPred x = (t : Node) × y.arc x pred t

  -- the class has a member
  abbrev pub IsSet : Node → Type 0
  IsSet x = (m : Node) × y.member x m

  -- the class has a PRED arc to a class with the form
  pub record HasForm (x : Node) (form : Form) : Type 0 where
    pub at : Node
    pub by_pred : y.arc x pred at
    pub site : Site
    pub index : ℕ
    pub is_value : y.value at (constant.Form form site index)

  -- Completeness: whatever a form names is there. A function inside the angle brackets needs a
  -- target with PRED, or one that is a set with a member (the case of sets is this project's own);
  -- a function behind them needs a target alone.
  pub record IsComplete : Type 0 where
    pub inner : (x : Node) (form : Form) (g : Name) → HasForm x form → In g form.inner → (t : Node) × y.arc x g t × (HasPred t ⊎ IsSet t)
    pub outer : (x : Node) (form : Form) (g : Name) → HasForm x form → In g form.outer → (t : Node) × y.arc x g t

  -- the form of the class names the function
  abbrev pub IsGoverned : Node → Name → Type 0
  IsGoverned x g = (form : Form) × HasForm x form × (In g form.inner ⊎ In g form.outer)

  -- Coherence: whatever governable function is there, the form of its class names. This is not asked
  -- of a set that has a member and no PRED (this project's own).
  pub record IsCoherent (governable : List Name) : Type 0 where
    pub each : (x t : Node) (g : Name) → In g governable → y.arc x g t → IsGoverned x g ⊎ (IsSet x × ¬ HasPred x)

  -- all conditions on an f-structure, by the governable functions and the constraints
  pub record IsWellFormed (governable : List Name) (constraints : List Check) : Type 0 where
    pub consistent : ¬ Clash
    pub acyclic : IsAcyclic
    pub satisfied : (c : Check) → In c constraints → Holds c
    pub complete : IsComplete
    pub coherent : IsCoherent governable

-- Law: with m nodes in a list of literals, round m * m is the sameness of its solution.
abbrev pub RoundsGiveSolution : Type 0
RoundsGiveSolution =
    (ls : List Literal) (x z : Node)
    → Round (nodes ls) (given ls) (arcs ls) (length (nodes ls) * length (nodes ls)) x z ↔ (solution ls).same x z
