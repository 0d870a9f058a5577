-- What the definitions say of small cases, as laws.
use Rattle.std.specs.Prelude.{◌≢◌, ◌↔◌, true, false, List, [], ◌∷◌}
use Rattle.lfg_terms.specs.declared.node.Edge.{Edge}
use Rattle.lfg_terms.specs.declared.node.Node as node
use Rattle.lfg_terms.specs.declared.node.Node.{Node}
use Rattle.lfg_terms.specs.declared.literal.Walk.{Walk}
use Rattle.lfg_terms.specs.declared.literal.Target.{Target}
use Rattle.lfg_terms.specs.declared.literal.Check.TheVariants as check
use Rattle.lfg_terms.specs.declared.literal.Literal.{Literal}
use Rattle.lfg_terms.specs.declared.literal.Literal.TheVariants as literal
use Rattle.lfg_model.specs.Terms.{Name}
use Rattle.lfg_model.specs.Solve.{solution, pred, Clash, Holds, IsCoherent}

-- the node of an edge, and the one that an attribute leads to from there
abbrev pub root : Edge → Node
root e = node.At e []

abbrev pub attribute : Edge → Name → Node
attribute e a = node.At e (a ∷ [])

-- e = f, f = g, (e a) = v, (g a) = w
abbrev pub two_equal_nodes : Edge → Edge → Edge → Name → Name → Name → List Literal
two_equal_nodes e f g a v w =
    literal.Equal (root e) (root f) ∷ literal.Equal (root f) (root g)
    ∷ literal.Value (attribute e a) v ∷ literal.Value (attribute g a) w ∷ []

-- Law: where x = y and y = z, and x and z have arcs by one attribute, the targets are equal. If the
-- targets have different atoms, the literals clash.
abbrev pub TargetsOfEqualNodesAreEqual : Type 0
TargetsOfEqualNodesAreEqual =
    (e f g : Edge) (a v w : Name)
    → (solution (two_equal_nodes e f g a v w)).same (attribute e a) (attribute g a) × (v ≢ w → Clash (solution (two_equal_nodes e f g a v w)))

-- (e g) = v
abbrev pub one_function : Edge → Name → Name → List Literal
one_function e g v = literal.Value (attribute e g) v ∷ []

-- Law: a governable function without a form that names it is not coherent. In a set with a member
-- and without PRED it is.
abbrev pub SetsWithoutPredAreExempt : Type 0
SetsWithoutPredAreExempt =
    (e f : Edge) (g v : Name) → g ≢ pred
    → (¬ IsCoherent (solution (one_function e g v)) (g ∷ []))
    × IsCoherent (solution (literal.Member (root f) (root e) ∷ one_function e g v)) (g ∷ [])

-- Law: a negated constraint is true just where the plain one is false.
abbrev pub NegatedWherePlainFails : Type 0
NegatedWherePlainFails =
    (ls : List Literal) (w : Walk) (t : Target)
    → (Holds (solution ls) (check.Same true w t) ↔ (¬ Holds (solution ls) (check.Same false w t)))
    × (Holds (solution ls) (check.Exists true w) ↔ (¬ Holds (solution ls) (check.Exists false w)))
