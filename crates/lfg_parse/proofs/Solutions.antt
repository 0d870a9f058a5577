-- Lists with the same literals have one solution: what holds in a solution depends on what stands in the
-- list, not on where or how often.
use Rattle.std.proofs.Common.{List, [], ◌∷◌}
use Rattle.std.specs.Prelude.{◌↔◌}
use Rattle.std.specs.List.{flat_map}
use Rattle.lfg_terms.specs.declared.node.Node.{Node}
use Rattle.lfg_terms.specs.declared.literal.Check.{Check}
use Rattle.lfg_terms.specs.declared.literal.Literal.{Literal}
use Rattle.lfg_model.specs.declared.constant.Constant.{Constant}
use Rattle.lfg_model.specs.Lists.{In}
use Rattle.lfg_model.specs.Terms.{Name}
use Rattle.lfg_model.specs.Literals.{nodes, arcs, given, values, members, checks}
use Rattle.lfg_model.specs.Solve.{solution, SameNode, HasArc, arc, HasValue, value, HasMember, member, AreAlike, IsWellFormed}
use Rattle.lfg_model.proofs.Alike.{well_formed_alike}
use Rattle.lfg_model.proofs.ListLaws.{In-flat_map, In_from_flat_map}
use Rattle.lfg_model.proofs.Names.{Equal-wider}

-- each literal of the first list stands in the second
abbrev pub Includes : List Literal → List Literal → Type 0
Includes xs ys = (l : Literal) → In l xs → In l ys

wider : {Y : Type 0} (f : Literal → List Y) (xs ys : List Literal) → Includes xs ys → (y : Y) → In y (flat_map f xs) → In y (flat_map f ys)
wider f xs ys sub y i = let h = In_from_flat_map f xs i in In-flat_map f (sub h.0 h.1) h.2

module _ (xs ys : List Literal) (sub : Includes xs ys) where
  same_wider : {x y : Node} → SameNode xs x y → SameNode ys x y
  same_wider e = Equal-wider
      (λ x i. wider _ xs ys sub x i) (λ x y i. wider _ xs ys sub (x, y) i) (λ x a t i. wider _ xs ys sub (x, a, t) i) e

  arc_wider : (x : Node) (a : Name) (t : Node) → HasArc xs x a t → HasArc ys x a t
  arc_wider x a t (arc s i r) = arc (same_wider s) (wider _ xs ys sub _ i) (same_wider r)

  value_wider : (x : Node) (c : Constant) → HasValue xs x c → HasValue ys x c
  value_wider x c (value s i) = value (same_wider s) (wider _ xs ys sub _ i)

  member_wider : (x m : Node) → HasMember xs x m → HasMember ys x m
  member_wider x m (member s i r) = member (same_wider s) (wider _ xs ys sub _ i) (same_wider r)

  check_wider : (c : Check) → In c (checks xs) → In c (checks ys)
  check_wider c i = wider _ xs ys sub c i

pub one_solution : (xs ys : List Literal) → Includes xs ys → Includes ys xs → AreAlike (solution xs) (solution ys)
one_solution xs ys sub sup = record {
  same = λ x u. ((λ e. same_wider xs ys sub e), (λ e. same_wider ys xs sup e));
  arc = λ x a t. (arc_wider xs ys sub x a t, arc_wider ys xs sup x a t);
  value = λ x c. (value_wider xs ys sub x c, value_wider ys xs sup x c);
  member = λ x m. (member_wider xs ys sub x m, member_wider ys xs sup x m);
}

-- and meet the same conditions
pub one_judgement : (xs ys : List Literal) (governable : List Name) → Includes xs ys → Includes ys xs
    → IsWellFormed (solution xs) governable (checks xs) → IsWellFormed (solution ys) governable (checks ys)
one_judgement xs ys governable sub sup w =
    let v = well_formed_alike (solution xs) (solution ys) (one_solution xs ys sub sup) governable (checks xs) w in
    record {
      consistent = v.consistent;
      acyclic = v.acyclic;
      satisfied = λ c i. v.satisfied c (check_wider ys xs sup c i);
      complete = v.complete;
      coherent = v.coherent;
    }
