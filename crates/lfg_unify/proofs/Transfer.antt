-- The system of places has at each assignment what the literals that hold there state.
use Rattle.std.proofs.Common.{◌≡◌, ℕ, ◌+◌, ◌<◌, ◌≤◌, Bool, true, false, ◌⊎◌, inl, inr, List, [], ◌∷◌, ◌++◌, length, map, sym, refl, ◌∙◌, ap, subst, arith}
use Rattle.std.specs.Prelude.{◌↔◌}
use Rattle.std.specs.List.{flat_map}
use Rattle.lfg_terms.specs.declared.node.Node.{Node}
use Rattle.lfg_terms.specs.declared.literal.Literal.{Literal}
use Rattle.lfg_model.specs.declared.constant.Constant.{Constant}
use Rattle.lfg_model.specs.Lists.{In, here, later}
use Rattle.lfg_model.specs.Terms.{Name}
use Rattle.lfg_model.specs.Equal.{Equal, itself, stated, turned, joined, along}
use Rattle.lfg_model.specs.Rounds.{AreBetween}
use Rattle.lfg_model.specs.Literals.{nodes, arcs, given, given_of, values, values_of, members, members_of}
use Rattle.lfg_model.specs.Solve.{SameNode}
use Rattle.lfg_model.proofs.ListLaws.{In-append_left, In-map, In_from_map, In-flat_map, In_from_flat_map}
use Rattle.lfg_model.proofs.LiteralLaws.{literals_between}
use Rattle.lfg_context.specs.Seen.{Set}
use Rattle.lfg_context.specs.Sets.{Assignment, member}
use Rattle.lfg_unify.specs.declared.system.System.{System}
use Rattle.lfg_unify.specs.Closures.{Row, place_in}
use Rattle.lfg_unify.specs.Holding.{holding, literals_of}
use Rattle.lfg_unify.specs.Rows.{Stands}
use Rattle.lfg_unify.specs.Marks.{IsStep, found_in, StandsAt, IsMentioned, IsMarked, AreArcs, given_in, values_in, members_in, arc_in}
use Rattle.lfg_unify.specs.Systems.{EqualIn, IsSystem}
use Rattle.lfg_unify.specs.Collected.{IsCollected}
use Rattle.lfg_unify.proofs.Places.{place_In, place_once}
use Rattle.lfg_unify.proofs.SweepLaws.{In-holding, holding_In}
use Rattle.lfg_unify.proofs.StepLaws.{defined, arc_step, step_arc}

-- ---- lists that are made from literals, literal by literal

module _ {X Y : Type 0} (of : Literal → List X) (make : X → Set → Y) (literals : List (Literal × Set)) (a : Assignment) where
  abbrev made : List Y
  made = flat_map (λ l. map (λ x. make x l.1) (of l.0)) literals

  pub made_back : (x : X) → In x (flat_map of (holding literals a)) → (z : Set) × In (make x z) made × (member z a ≡ true)
  made_back x h =
      let l = In_from_flat_map of (holding literals a) h in
      let p = holding_In literals a l.0 l.1 in
      (p.0, In-flat_map (λ l. map (λ x. make x l.1) (of l.0)) p.1 (In-map (λ x. make x p.0) l.2), p.2)

  pub made_forth : (y : Y) → In y made → (set : Y → Set) → ((x : X) (z : Set) → set (make x z) ≡ z) → member (set y) a ≡ true → (x : X) × In x (flat_map of (holding literals a)) × (make x (set y) ≡ y)
  made_forth y h set back m =
      let l = In_from_flat_map (λ l. map (λ x. make x l.1) (of l.0)) literals h in
      let p = In_from_map (λ x. make x l.0.1) (of l.0.0) l.2 in
      let e : l.0.1 ≡ set y = sym (back p.0 l.0.1) ∙ ap set p.2 in
      let i : In l.0.0 (holding literals a) = In-holding literals a l.0.0 l.0.1 l.1 (ap (λ z. member z a) e ∙ m) in
      (p.0, In-flat_map of i p.1, ap (make p.0) (sym e) ∙ p.2)

-- the nodes that literals have, at an assignment
pub node_holding : (literals : List (Literal × Set)) (a : Assignment) (whole : Bool) (x : Node) → In x (flat_map (found_in whole) (holding literals a))
    → (l : Literal × Set) × In l literals × (member l.1 a ≡ true) × In x (found_in whole l.0)
node_holding literals a whole x h =
    let l = In_from_flat_map (found_in whole) (holding literals a) h in
    let p = holding_In literals a l.0 l.1 in
    ((l.0, p.0), p.1, p.2, l.2)

pub holding_node : (literals : List (Literal × Set)) (a : Assignment) (whole : Bool) (x : Node) (l : Literal × Set) → In l literals → member l.1 a ≡ true → In x (found_in whole l.0)
    → In x (flat_map (found_in whole) (holding literals a))
holding_node literals a whole x l i m j = In-flat_map (found_in whole) (In-holding literals a l.0 l.1 i m) j

defined_whole : (ls : List Literal) (x : Node) → In x (defined ls) → In x (nodes ls)
defined_whole ls x h = let l = In_from_flat_map (found_in false) ls h in In-flat_map (found_in true) l.1 (In-append_left _ l.2)

pub ends : (ls : List Literal) {x y : Node} → SameNode ls x y → In x (nodes ls) × In y (nodes ls)
ends ls (itself i) = (i, i)
ends ls (stated i) = (literals_between ls).given_pairs _ _ i
ends ls (turned i) = let p = (literals_between ls).given_pairs _ _ i in (p.1, p.0)
ends ls (joined d e) = ((ends ls d).0, (ends ls e).1)
ends ls (along d i j) = (((literals_between ls).arc_ends _ _ _ i).1, ((literals_between ls).arc_ends _ _ _ j).1)

module _ (ns : List Node) (literals : List (Literal × Set)) (list : List (Node × Name × Node × Set)) (s : System) (c : IsCollected ns literals list s) (a : Assignment) where
  abbrev ls : List Literal
  ls = holding literals a

  pub listed : (x : Node) → In x (nodes ls) → In x ns
  listed x h = let l = node_holding literals a true x h in (c.nodes.exact x).1 (In-flat_map (λ l. found_in true l.0) l.1 l.3)

  mentioned : (whole : Bool) (x : Node) → In x (flat_map (found_in whole) ls) → In x ns → IsMentioned ns whole literals a (place_in ns x)
  mentioned whole x h i =
      let l = node_holding literals a whole x h in
      record { literal = l.0; listed = l.1; holds = l.2; at = record { node = x; listed = l.3; place = refl; below = place_In ns x i } }

  mention_node : (whole : Bool) (y : ℕ) → IsMentioned ns whole literals a y → (x : Node) × In x (flat_map (found_in whole) ls) × (place_in ns x ≡ y)
  mention_node whole y m = (m.at.node, holding_node literals a whole m.at.node m.literal m.listed m.holds m.at.listed, m.at.place)

  there_forth : (i : ℕ) → In i (holding s.there.items a) → (x : Node) × In x (nodes ls) × (place_in ns x ≡ i)
  there_forth i h = let p = holding_In s.there.items a i h in mention_node true i ((c.there.each a i).0 (record { set = p.0; listed = p.1; holds = p.2 }))

  there_back : (x : Node) → In x (nodes ls) → In (place_in ns x) (holding s.there.items a)
  there_back x h = let t = (c.there.each a (place_in ns x)).1 (mentioned true x h (listed x h)) in In-holding s.there.items a (place_in ns x) t.set t.listed t.holds

  abbrev pair_made : Node × Node → Set → (ℕ × ℕ) × Set
  pair_made p z = ((place_in ns p.0, place_in ns p.1), z)

  given_forth : (i j : ℕ) → In (i, j) (holding s.given.items a) → (x : Node) × (y : Node) × In (x, y) (given ls) × (place_in ns x ≡ i) × (place_in ns y ≡ j)
  given_forth i j h =
      let p = holding_In s.given.items a (i, j) h in
      let m = made_forth given_of pair_made literals a ((i, j), p.0) (subst (λ (xs : List ((ℕ × ℕ) × Set)). In ((i, j), p.0) xs) c.given p.1) (λ y. y.1) (λ x z. refl) p.2 in
      (m.0.0, m.0.1, m.1, ap (λ r. r.0.0) m.2, ap (λ r. r.0.1) m.2)

  given_back : (x y : Node) → In (x, y) (given ls) → In (place_in ns x, place_in ns y) (holding s.given.items a)
  given_back x y h =
      let m = made_back given_of pair_made literals a (x, y) h in
      In-holding s.given.items a (place_in ns x, place_in ns y) m.0 (subst (λ (xs : List ((ℕ × ℕ) × Set)). In (pair_made (x, y) m.0) xs) (sym c.given) m.1) m.2

  pub arc_forth : (x : Node) (n : Name) (t : Node) (z : Set) → In (x, n, t, z) list → member z a ≡ true → In (x, n, t) (arcs ls)
  arc_forth x n t z h m =
      let p = c.arcs.sound x n t z h in
      let d = mention_node false p.1.0 ((c.marked.each a p.1.0).0 (record { set = z; listed = p.1.1; holds = m })) in
      let e : t ≡ d.0 = (let u : place_in ns t ≡ place_in ns d.0 = p.1.2 ∙ sym d.2 in place_once ns t d.0 p.1.4 u) in
      step_arc ls x n t (subst (λ (y : Node). In y (defined ls)) (sym e) d.1) p.0

  pub arc_back : (x : Node) (n : Name) (t : Node) → In (x, n, t) (arcs ls) → (z : Set) × In (x, n, t, z) list × (member z a ≡ true)
  arc_back x n t h =
      let p = arc_step ls x n t h in
      let i = listed t (defined_whole ls t p.0) in
      let d = (c.marked.each a (place_in ns t)).1 (mentioned false t p.0 i) in
      (d.set, c.arcs.all x n t (place_in ns t) d.set p.1 d.listed i refl, d.holds)

  numbered_forth : (i : ℕ) (n : Name) (j : ℕ) → In (i, n, j) (holding s.arcs.items a) → (x : Node) × (t : Node) × In (x, n, t) (arcs ls) × (place_in ns x ≡ i) × (place_in ns t ≡ j)
  numbered_forth i n j h =
      let p = holding_In s.arcs.items a (i, n, j) h in
      let q = In_from_map (arc_in ns) list (subst (λ (xs : List ((ℕ × Name × ℕ) × Set)). In ((i, n, j), p.0) xs) c.numbered p.1) in
      let m : member q.0.3 a ≡ true = ap (λ r. member r.1 a) q.2 ∙ p.2 in
      let k = arc_forth q.0.0 q.0.1 q.0.2 q.0.3 q.1 m in
      (q.0.0, q.0.2, subst (λ (b : Name). In (q.0.0, b, q.0.2) (arcs ls)) (ap (λ r. r.0.1) q.2) k, ap (λ r. r.0.0) q.2, ap (λ r. r.0.2) q.2)

  numbered_back : (x : Node) (n : Name) (t : Node) → In (x, n, t) (arcs ls) → In (place_in ns x, n, place_in ns t) (holding s.arcs.items a)
  numbered_back x n t h =
      let p = arc_back x n t h in
      let i : In ((place_in ns x, n, place_in ns t), p.0) s.arcs.items = subst (λ (xs : List ((ℕ × Name × ℕ) × Set)). In ((place_in ns x, n, place_in ns t), p.0) xs) (sym c.numbered) (In-map (arc_in ns) p.1) in
      In-holding s.arcs.items a (place_in ns x, n, place_in ns t) p.0 i p.2

  -- ---- equal nodes

  pub same_back : (x y : Node) → SameNode ls x y → EqualIn s a (place_in ns x) (place_in ns y)
  same_back x y (itself i) = itself (there_back x i)
  same_back x y (stated i) = stated (given_back x y i)
  same_back x y (turned i) = turned (given_back y x i)
  same_back x y (joined {y = w} d e) = joined (same_back x w d) (same_back w y e)
  same_back t u (along {x} {y} {a = n} d i j) = along (same_back x y d) (numbered_back x n t i) (numbered_back y n u j)

  record Stand (i j : ℕ) : Type 0 where
    first : Node
    second : Node
    same : SameNode ls first second
    at_first : place_in ns first ≡ i
    at_second : place_in ns second ≡ j

  one_node : (x y : Node) (i : ℕ) → In x (nodes ls) → place_in ns x ≡ i → place_in ns y ≡ i → x ≡ y
  one_node x y i h e f = place_once ns x y (listed x h) (e ∙ sym f)

  stand_itself : (i : ℕ) → In i (holding s.there.items a) → Stand i i
  stand_itself i h = let r = there_forth i h in record { first = r.0; second = r.0; same = itself r.1; at_first = r.2; at_second = r.2 }

  stand_stated : (i j : ℕ) → In (i, j) (holding s.given.items a) → Stand i j
  stand_stated i j h = let r = given_forth i j h in record { first = r.0; second = r.1; same = stated r.2; at_first = r.3; at_second = r.4 }

  stand_turned : (i j : ℕ) → In (i, j) (holding s.given.items a) → Stand j i
  stand_turned i j h = let r = given_forth i j h in record { first = r.1; second = r.0; same = turned r.2; at_first = r.4; at_second = r.3 }

  stand_joined : (i j k : ℕ) → Stand i j → Stand j k → Stand i k
  stand_joined i j k p q =
      let e : p.second ≡ q.first = one_node p.second q.first j (ends ls p.same).1 p.at_second q.at_first in
      let d : SameNode ls p.first q.first = subst (λ (y : Node). SameNode ls p.first y) e p.same in
      record { first = p.first; second = q.second; same = joined d q.same; at_first = p.at_first; at_second = q.at_second }

  stand_along : (i j : ℕ) (n : Name) (t u : ℕ) → Stand i j → In (i, n, t) (holding s.arcs.items a) → In (j, n, u) (holding s.arcs.items a) → Stand t u
  stand_along i j n t u p h k =
      let q = numbered_forth i n t h in
      let r = numbered_forth j n u k in
      let e : p.first ≡ q.0 = one_node p.first q.0 i (ends ls p.same).0 p.at_first q.3 in
      let f : p.second ≡ r.0 = one_node p.second r.0 j (ends ls p.same).1 p.at_second r.3 in
      let d : SameNode ls q.0 p.second = subst (λ (x : Node). SameNode ls x p.second) e p.same in
      let g : SameNode ls q.0 r.0 = subst (λ (y : Node). SameNode ls q.0 y) f d in
      record { first = q.1; second = r.1; same = along g q.2 r.2; at_first = q.4; at_second = r.4 }

  stand : (i j : ℕ) → EqualIn s a i j → Stand i j
  stand i j (itself h) = stand_itself i h
  stand i j (stated h) = stand_stated i j h
  stand i j (turned h) = stand_turned j i h
  stand i j (joined {y} d e) = stand_joined i y j (stand i y d) (stand y j e)
  stand t u (along {x} {y} {a = n} d h k) = stand_along x y n t u (stand x y d) h k

  -- places that are equal are those of equal nodes
  pub same_forth : (x y : Node) → In x ns → In y ns → EqualIn s a (place_in ns x) (place_in ns y) → SameNode ls x y
  same_forth x y i j d =
      let p = stand (place_in ns x) (place_in ns y) d in
      let e : x ≡ p.first = place_once ns x p.first i (sym p.at_first) in
      let f : y ≡ p.second = place_once ns y p.second j (sym p.at_second) in
      let g : SameNode ls p.first y = subst (λ (w : Node). SameNode ls p.first w) (sym f) p.same in
      subst (λ (w : Node). SameNode ls w y) (sym e) g

  pub between : AreBetween (holding s.there.items a) (holding s.given.items a) (holding s.arcs.items a)
  between = record {
    given_pairs = λ i j h.
        let r = given_forth i j h in
        let e = (literals_between ls).given_pairs r.0 r.1 r.2 in
        (subst (λ (n : ℕ). In n (holding s.there.items a)) r.3 (there_back r.0 e.0), subst (λ (n : ℕ). In n (holding s.there.items a)) r.4 (there_back r.1 e.1));
    arc_ends = λ i n j h.
        let r = numbered_forth i n j h in
        let e = (literals_between ls).arc_ends r.0 n r.1 r.2 in
        (subst (λ (m : ℕ). In m (holding s.there.items a)) r.3 (there_back r.0 e.0), subst (λ (m : ℕ). In m (holding s.there.items a)) r.4 (there_back r.1 e.1));
  }
