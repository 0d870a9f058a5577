-- Numbers for the classes of a list of literals, which show what is not equal.
use Rattle.std.proofs.Common.{◌≡◌, ℕ, ◌<◌, Bool, true, List, [], refl, sym, ◌∙◌, arith}
use Rattle.std.specs.List.{list_all}
use Rattle.std.proofs.lemmas.Bool.{and_parts}
use Rattle.lfg_terms.specs.declared.node.Node.{Node}
use Rattle.lfg_terms.specs.declared.literal.Literal.{Literal}
use Rattle.lfg_model.specs.Lists.{In, here, later}
use Rattle.lfg_model.specs.Terms.{Name}
use Rattle.lfg_model.specs.Equal.{Equal, itself, stated, turned, joined, along}
use Rattle.lfg_model.specs.Literals.{arcs, given, members}
use Rattle.lfg_model.specs.Rounds.{AreBetween}
use Rattle.lfg_model.proofs.ListLaws.{In-nil}
use Rattle.lfg_model.specs.Solve.{SameNode, arc, member, solution, Step, by_arc, to_member, Below, one_step, more_steps}

pub all_pass : {X : Type 0} (p : X → Bool) {x : X} {xs : List X} → In x xs → list_all p xs ≡ true → p x ≡ true
all_pass p (here {xs}) t = (and_parts _ _ t).0
all_pass p (later {y} {xs} h) t = all_pass p h (and_parts (p y) (list_all p xs) t).1

-- equal nodes are nodes
pub Equal-ends : {X A : Type 0} {ns : List X} {ps : List (X × X)} {rs : List (X × A × X)} → AreBetween ns ps rs → {x y : X} → Equal ns ps rs x y → In x ns × In y ns
Equal-ends ok (itself i) = (i, i)
Equal-ends ok (stated i) = ok.given_pairs _ _ i
Equal-ends ok (turned i) = let p = ok.given_pairs _ _ i in (p.1, p.0)
Equal-ends ok (joined a b) = ((Equal-ends ok a).0, (Equal-ends ok b).1)
Equal-ends ok (along e i j) = ((ok.arc_ends _ _ _ i).1, (ok.arc_ends _ _ _ j).1)

-- numbers that are the same at nodes that are forced to be equal
pub record IsClassing (ls : List Literal) (class : Node → ℕ) : Type 0 where
  pub of_given : (x y : Node) → In (x, y) (given ls) → class x ≡ class y
  pub of_arcs : (x y t u : Node) (a : Name) → In (x, a, t) (arcs ls) → In (y, a, u) (arcs ls) → class x ≡ class y → class t ≡ class u

module _ (ls : List Literal) (class : Node → ℕ) (ok : IsClassing ls class) where
  pub same_class : {x y : Node} → SameNode ls x y → class x ≡ class y
  same_class (itself i) = refl
  same_class (stated i) = ok.of_given _ _ i
  same_class (turned i) = sym (ok.of_given _ _ i)
  same_class (joined a b) = same_class a ∙ same_class b
  same_class (along e i j) = ok.of_arcs _ _ _ _ _ i j (same_class e)

  step_lower : ((x t : Node) (a : Name) → In (x, a, t) (arcs ls) → class t < class x) → members ls ≡ [] → {x t : Node} → Step (solution ls) x t → class t < class x
  step_lower lower none (by_arc (arc s i r)) = let a = same_class s in let b = same_class r in let l = lower _ _ _ i in omega arith
  step_lower lower none (to_member (member s i r)) = In-nil (rw none at i)

  -- where arcs go to lower classes, and there are no members, all steps go down
  pub below_lower : ((x t : Node) (a : Name) → In (x, a, t) (arcs ls) → class t < class x) → members ls ≡ [] → {x t : Node} → Below (solution ls) x t → class t < class x
  below_lower lower none (one_step s) = step_lower lower none s
  below_lower lower none (more_steps s b) = let rest = below_lower lower none b in let first = step_lower lower none s in omega arith
