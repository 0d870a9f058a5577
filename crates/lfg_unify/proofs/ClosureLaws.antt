-- The parts of a closure are the solution of the literals that hold.
use Rattle.std.proofs.Common.{◌≡◌, ◌≢◌, ℕ, zero, suc, ◌+◌, ◌<◌, ◌≤◌, Bool, true, false, ◌⊎◌, inl, inr, List, [], ◌∷◌, ◌++◌, length, map, Some, sym, refl, ◌∙◌, ap, subst, arith}
use Rattle.std.specs.Prelude.{◌↔◌, slice_index_or}
use Rattle.std.specs.List.{flat_map}
use Rattle.lfg_terms.specs.Order.{node_cmp}
use Rattle.lfg_terms.specs.declared.node.Node.{Node}
use Rattle.lfg_terms.specs.declared.literal.Literal.{Literal}
use Rattle.lfg_model.specs.declared.constant.Constant.{Constant}
use Rattle.lfg_model.specs.Lists.{In, here, later, Lists}
use Rattle.lfg_model.specs.Terms.{Name}
use Rattle.lfg_model.specs.Literals.{nodes, arcs, values, values_of, members, members_of, given, given_of}
use Rattle.lfg_model.specs.Equal.{itself}
use Rattle.lfg_model.specs.Solve.{SameNode, HasArc, arc, HasValue, value, HasMember, member as member_of, solution, AreAlike, Clash, two_values, beside_arc, beside_member}
use Rattle.lfg_model.proofs.ListLaws.{In-at, In-nil, In-place, In-append_left, In-map, In_from_map, In-flat_map, In_from_flat_map}
use Rattle.lfg_model.proofs.LiteralLaws.{literals_between}
use Rattle.lfg_model.proofs.SolutionLaws.{Equal-sym}
use Rattle.lfg_model.specs.Equal.{joined}
use Rattle.lfg_context.specs.Seen.{Set, Known}
use Rattle.lfg_context.specs.Sets.{Assignment, member, IsMade, AreMade}
use Rattle.lfg_context.specs.Telling.{Tells, InSome}
use Rattle.lfg_context.proofs.Telling.{true_not_false}
use Rattle.lfg_unify.specs.declared.system.System.{System}
use Rattle.lfg_unify.specs.Closures.{Row, Closed, Ascends, place_in, context_in, equal_of, SameAt, HasArcAt, HasValueAt, HasMemberAt, closure_at, AreClosureSets, AreThere, IsClosureOf}
use Rattle.lfg_unify.specs.Holding.{holding, literals_of}
use Rattle.lfg_unify.specs.Rows.{Stands, Has, row_of, IsRow, AreRows, AreAscending}
use Rattle.lfg_unify.specs.Marks.{IsStep, found_in, AreArcs, given_in, values_in, members_in, arc_in}
use Rattle.lfg_unify.specs.Systems.{EqualIn, IsSystem, Solves}
use Rattle.lfg_unify.specs.Clashes.{Placed, Differs, IsBeside, Clashes}
use Rattle.lfg_unify.specs.Collected.{IsCollected, IsFinished, placed_in, source_in, set_in}
use Rattle.lfg_unify.proofs.Tables.{get_In}
use Rattle.lfg_unify.proofs.Places.{place_In, place_get, place_once}
use Rattle.lfg_unify.proofs.SweepLaws.{has_below, stands_below, context_stands, stands_context, In-holding, holding_In}
use Rattle.lfg_unify.proofs.StepLaws.{value_node, member_node}
use Rattle.lfg_unify.proofs.Transfer.{made_forth, made_back, arc_forth, arc_back, same_forth, same_back, ends, listed, between}

-- ---- all literals

literals_in : (literals : List (Literal × Set)) (l : Literal × Set) → In l literals → In l.0 (literals_of literals)
literals_in (m ∷ ls) l here = here
literals_in (m ∷ ls) l (later h) = later (literals_in ls l h)
literals_in [] l h = In-nil h

nodes_same : (literals : List (Literal × Set)) → nodes (literals_of literals) ≡ flat_map (λ l. found_in true l.0) literals
nodes_same [] = refl
nodes_same (l ∷ ls) = ap (λ ns. found_in true l.0 ++ ns) (nodes_same ls)

pub all_listed : (literals : List (Literal × Set)) (ns : List Node) → Lists node_cmp (λ n. In n (flat_map (λ l. found_in true l.0) literals)) ns → Lists node_cmp (λ n. In n (nodes (literals_of literals))) ns
all_listed literals ns h = subst (λ (ms : List Node). Lists node_cmp (λ n. In n ms) ns) (sym (nodes_same literals)) h

module _ (literals : List (Literal × Set)) (ns : List Node) (all : Lists node_cmp (λ n. In n (flat_map (λ l. found_in true l.0) literals)) ns) where
  in_nodes : (x : Node) → In x (nodes (literals_of literals)) → In x ns
  in_nodes x h = (all.exact x).1 (subst (λ (ms : List Node). In x ms) (nodes_same literals) h)

  pub value_listed : (v : Node × Constant × Set) → In v (flat_map values_in literals) → In v.0 ns
  value_listed v h =
      let l = In_from_flat_map values_in literals h in
      let p = In_from_map (λ w. (w.0, w.1, l.0.1)) (values_of l.0.0) l.2 in
      let i = value_node (literals_of literals) p.0.0 p.0.1 (In-flat_map values_of (literals_in literals l.0 l.1) p.1) in
      subst (λ (x : Node). In x ns) (ap (λ w. w.0) p.2) (in_nodes p.0.0 i)

  pub given_within : (e : (ℕ × ℕ) × Set) → In e (flat_map (given_in ns) literals) → (e.0.0 < length ns) × (e.0.1 < length ns)
  given_within e h =
      let l = In_from_flat_map (given_in ns) literals h in
      let p = In_from_map (λ q. ((place_in ns q.0, place_in ns q.1), l.0.1)) (given_of l.0.0) l.2 in
      let b = (literals_between (literals_of literals)).given_pairs p.0.0 p.0.1 (In-flat_map given_of (literals_in literals l.0 l.1) p.1) in
      let f = ap (λ w. w.0.0) p.2 in
      let g = ap (λ w. w.0.1) p.2 in
      (subst (λ (n : ℕ). n < length ns) f (place_In ns p.0.0 (in_nodes p.0.0 b.0)), subst (λ (n : ℕ). n < length ns) g (place_In ns p.0.1 (in_nodes p.0.1 b.1)))

-- ---- sets that are made from those of literals

pub given_made : {k : Known} (ns : List Node) (literals : List (Literal × Set)) → AreMade k (λ l. l.1) literals → AreMade k (λ e. e.1) (flat_map (given_in ns) literals)
given_made {k} ns literals m = record {
  each = λ e h.
      let l = In_from_flat_map (given_in ns) literals h in
      let p = In_from_map (λ q. ((place_in ns q.0, place_in ns q.1), l.0.1)) (given_of l.0.0) l.2 in
      subst (λ (z : Set). IsMade k z) (ap (λ w. w.1) p.2) (m.each l.0 l.1);
}

pub values_made : {k : Known} (literals : List (Literal × Set)) → AreMade k (λ l. l.1) literals → AreMade k (λ v. v.2) (flat_map values_in literals)
values_made {k} literals m = record {
  each = λ e h.
      let l = In_from_flat_map values_in literals h in
      let p = In_from_map (λ w. (w.0, w.1, l.0.1)) (values_of l.0.0) l.2 in
      subst (λ (z : Set). IsMade k z) (ap (λ w. w.2) p.2) (m.each l.0 l.1);
}

pub members_made : {k : Known} (literals : List (Literal × Set)) → AreMade k (λ l. l.1) literals → AreMade k (λ v. v.2) (flat_map members_in literals)
members_made {k} literals m = record {
  each = λ e h.
      let l = In_from_flat_map members_in literals h in
      let p = In_from_map (λ w. (w.0, w.1, l.0.1)) (members_of l.0.0) l.2 in
      subst (λ (z : Set). IsMade k z) (ap (λ w. w.2) p.2) (m.each l.0 l.1);
}

pub map_made : {X Y : Type 0} {k : Known} (f : X → Y) (x_set : X → Set) (y_set : Y → Set) (xs : List X) → ((x : X) → y_set (f x) ≡ x_set x) → AreMade k x_set xs → AreMade k y_set (map f xs)
map_made {X} {Y} {k} f x_set y_set xs same m = record {
  each = λ y h.
      let p = In_from_map f xs h in
      subst (λ (z : Set). IsMade k z) (sym (same p.0) ∙ ap y_set p.2) (m.each p.0 p.1);
}

pub row_made : {k : Known} (row : Row) → IsRow k row → AreMade k (λ e. e.1) row
row_made row m = record { each = λ e i. (m.each e i).made }

pub arcs_made : {k : Known} (ns : List Node) (row : Row) (list : List (Node × Name × Node × Set)) → IsRow k row → AreArcs ns row list → AreMade k (λ r. r.3) list
arcs_made ns row list m a = record {
  each = λ r i. let p = a.sound r.0 r.1 r.2 r.3 i in (m.each (p.1.0, r.3) p.1.1).made;
}

-- ---- the system

pub is_system : {k : Known} (ns : List Node) (literals : List (Literal × Set)) (list : List (Node × Name × Node × Set)) (s : System) → (c : IsCollected ns literals list s) → Ascends (length ns) 0 s.there.items → IsRow k c.defined → IsSystem (length ns) s
is_system {k} ns literals list s c asc row = record {
  between = λ a. between ns literals list s c a;
  there = λ e i. stands_below (length ns) 0 s.there.items e.0 e.1 asc i;
  given = λ e i. given_within literals ns c.nodes e (subst (λ (xs : List ((ℕ × ℕ) × Set)). In e xs) c.given i);
  arcs = λ e i.
      let p = In_from_map (arc_in ns) list (subst (λ (xs : List ((ℕ × Name × ℕ) × Set)). In e xs) c.numbered i) in
      let q = c.arcs.sound p.0.0 p.0.1 p.0.2 p.0.3 p.1 in
      let w = (row.each (q.1.0, p.0.3) q.1.1).some in
      let b = (literals_between (holding literals w.0)).arc_ends p.0.0 p.0.1 p.0.2 (arc_forth ns literals list s c w.0 p.0.0 p.0.1 p.0.2 p.0.3 p.1 w.1) in
      let f = ap (λ r. r.0.0) p.2 in
      let g = ap (λ r. r.0.2) p.2 in
      (subst (λ (n : ℕ). n < length ns) f (place_In ns p.0.0 (listed ns literals list s c w.0 p.0.0 b.0)), subst (λ (n : ℕ). n < length ns) g (place_In ns p.0.2 (listed ns literals list s c w.0 p.0.2 b.1)));
}

-- ---- the closure

module _ (ns : List Node) (literals : List (Literal × Set)) (list : List (Node × Name × Node × Set)) (s : System) (c : IsCollected ns literals list s)
    (rows : List Row) (solves : Solves s rows) (asc : AreAscending rows) (count : length rows ≡ length ns) (a : Assignment) where
  abbrev ls : List Literal
  ls = holding literals a

  -- equal nodes, by the table
  pub has_forth : (x y : Node) → Has rows a (place_in ns x) (place_in ns y) → SameNode ls x y
  has_forth x y h =
      let i = has_below rows a (place_in ns x) (place_in ns y) h in
      let j = stands_below (length rows) 0 (row_of rows (place_in ns x)) (place_in ns y) h.set (asc.each (place_in ns x)) h.listed in
      same_forth ns literals list s c a x y (get_In ns (place_in ns x) x (place_get ns x (omega (arith, i, count)))) (get_In ns (place_in ns y) y (place_get ns y (omega (arith, j, count))))
      (solves.sound.each a (place_in ns x) (place_in ns y) h)

  pub has_back : (x y : Node) → SameNode ls x y → Has rows a (place_in ns x) (place_in ns y)
  has_back x y e = solves.all.each a (place_in ns x) (place_in ns y) (same_back ns literals list s c a x y e)

  value_forth : (x : Node) (k : Constant) (z : Set) → In (x, k, z) (flat_map values_in literals) → member z a ≡ true → In (x, k) (values ls)
  value_forth x k z h m =
      let p = made_forth values_of (λ v z. (v.0, v.1, z)) literals a (x, k, z) h (λ y. y.2) (λ v z. refl) m in
      subst (λ (v : Node × Constant). In v (values ls)) (λ i. (ap (λ r. r.0) p.2 i, ap (λ r. r.1) p.2 i)) p.1

  value_back : (x : Node) (k : Constant) → In (x, k) (values ls) → (z : Set) × In (x, k, z) (flat_map values_in literals) × (member z a ≡ true)
  value_back x k h = made_back values_of (λ v z. (v.0, v.1, z)) literals a (x, k) h

  member_forth : (m x : Node) (z : Set) → In (m, x, z) (flat_map members_in literals) → member z a ≡ true → In (m, x) (members ls)
  member_forth m x z h t =
      let p = made_forth members_of (λ v z. (v.0, v.1, z)) literals a (m, x, z) h (λ y. y.2) (λ v z. refl) t in
      subst (λ (v : Node × Node). In v (members ls)) (λ i. (ap (λ r. r.0) p.2 i, ap (λ r. r.1) p.2 i)) p.1

  member_back : (m x : Node) → In (m, x) (members ls) → (z : Set) × In (m, x, z) (flat_map members_in literals) × (member z a ≡ true)
  member_back m x h = made_back members_of (λ v z. (v.0, v.1, z)) literals a (m, x) h

  -- ---- clashes

  abbrev all_placed : List Placed
  all_placed = map (placed_in ns) (flat_map values_in literals)

  abbrev sources : List (ℕ × Set)
  sources = map (source_in ns) list

  abbrev sets : List (ℕ × Set)
  sets = map (set_in ns) (flat_map members_in literals)

  value_there : (x : Node) (k : Constant) → In (x, k) (values ls) → HasValue ls x k
  value_there x k i = value (itself (value_node ls x k i)) i

  pub clash_forth : InSome all_placed (Clashes rows all_placed sources sets) a → Clash (solution ls)
  clash_forth h =
      let p = In_from_map (placed_in ns) (flat_map values_in literals) h.listed in
      by_kind p.0 p.1 (subst (λ (v : Placed). Clashes rows all_placed sources sets v a) (sym p.2) h.holds).meets
    where
      by_kind : (v : Node × Constant × Set) → In v (flat_map values_in literals)
          → InSome all_placed (Differs rows (placed_in ns v)) a ⊎ (InSome sources (IsBeside rows (placed_in ns v)) a ⊎ InSome sets (IsBeside rows (placed_in ns v)) a) → Clash (solution ls)
      by_kind v i (inl w) =
          let p = In_from_map (placed_in ns) (flat_map values_in literals) w.listed in
          let d = subst (λ (u : Placed). Differs rows (placed_in ns v) u a) (sym p.2) w.holds in
          let e = has_forth v.0 p.0.0 d.same in
          two_values (value_there v.0 v.1 (value_forth v.0 v.1 v.2 i d.first_holds)) (value e (value_forth p.0.0 p.0.1 p.0.2 p.1 d.second_holds)) d.apart
      by_kind v i (inr (inl w)) =
          let p = In_from_map (source_in ns) list w.listed in
          let d = subst (λ (u : ℕ × Set). IsBeside rows (placed_in ns v) u a) (sym p.2) w.holds in
          let e = has_forth v.0 p.0.0 d.same in
          let r = arc_forth ns literals list s c a p.0.0 p.0.1 p.0.2 p.0.3 p.1 d.second_holds in
          let t = (literals_between ls).arc_ends p.0.0 p.0.1 p.0.2 r in
          beside_arc (value_there v.0 v.1 (value_forth v.0 v.1 v.2 i d.first_holds)) (arc e r (itself t.1))
      by_kind v i (inr (inr w)) =
          let p = In_from_map (set_in ns) (flat_map members_in literals) w.listed in
          let d = subst (λ (u : ℕ × Set). IsBeside rows (placed_in ns v) u a) (sym p.2) w.holds in
          let e = has_forth v.0 p.0.1 d.same in
          let r = member_forth p.0.0 p.0.1 p.0.2 p.1 d.second_holds in
          let t = member_node ls p.0.0 p.0.1 r in
          beside_member (value_there v.0 v.1 (value_forth v.0 v.1 v.2 i d.first_holds)) (member_of e r (itself t.0))

  some_placed : (n : Node) (k : Constant) → In (n, k) (values ls) → (v : Placed) × In v all_placed × (member v.1 a ≡ true) × (v.0.0 ≡ place_in ns n) × (v.0.1 ≡ k)
  some_placed n k i = let p = value_back n k i in (placed_in ns (n, k, p.0), In-map (placed_in ns) p.1, p.2, refl, refl)

  pair_has : (x n m : Node) (i j : ℕ) → SameNode ls x n → SameNode ls x m → i ≡ place_in ns n → j ≡ place_in ns m → Has rows a i j
  pair_has x n m i j e f g h =
      let t = has_back n m (joined (Equal-sym e) f) in
      let u : Has rows a i (place_in ns m) = subst (λ (k : ℕ). Has rows a k (place_in ns m)) (sym g) t in
      subst (λ (k : ℕ). Has rows a i k) (sym h) u

  pub clash_back : Clash (solution ls) → InSome all_placed (Clashes rows all_placed sources sets) a
  clash_back (two_values {c = k} {d = l} (value {n} e i) (value {n = m} f j) apart) =
      let v = some_placed n k i in
      let w = some_placed m l j in
      record {
        item = v.0;
        listed = v.1;
        holds = record {
          meets = inl (record {
            item = w.0;
            listed = w.1;
            holds = record { apart = λ q. apart (sym v.4 ∙ q ∙ w.4); first_holds = v.2; second_holds = w.2; same = pair_has _ n m v.0.0.0 w.0.0.0 e f v.3 w.3 };
          });
        };
      }
  clash_back (beside_arc {c = k} (value {n} e i) (arc {n = m} {u} f j g)) =
      let v = some_placed n k i in
      let w = arc_back ns literals list s c a m _ u j in
      record {
        item = v.0;
        listed = v.1;
        holds = record {
          meets = inr (inl (record {
            item = (place_in ns m, w.0);
            listed = In-map (source_in ns) w.1;
            holds = record { first_holds = v.2; second_holds = w.2; same = pair_has _ n m v.0.0.0 (place_in ns m) e f v.3 refl };
          }));
        };
      }
  clash_back (beside_member {c = k} (value {n} e i) (member_of {n = m} {k = t} f j g)) =
      let v = some_placed n k i in
      let w = member_back t m j in
      record {
        item = v.0;
        listed = v.1;
        holds = record {
          meets = inr (inr (record {
            item = (place_in ns m, w.0);
            listed = In-map (set_in ns) w.1;
            holds = record { first_holds = v.2; second_holds = w.2; same = pair_has _ n m v.0.0.0 (place_in ns m) e f v.3 refl };
          }));
        };
      }

  -- ---- the relations

  module _ (k : Closed) (f : IsFinished ns rows list (flat_map values_in literals) (flat_map members_in literals) k.clash k.empty k) (none : member k.empty a ≡ false) where
    context_is : (x y : Node) → equal_of k x y ≡ context_in k.empty (row_of rows (place_in ns x)) (place_in ns y)
    context_is x y = ap (λ ms. context_in k.empty (slice_index_or k.rows (place_in ms x) []) (place_in ms y)) f.nodes ∙ ap (λ r. context_in k.empty (slice_index_or r (place_in ns x) []) (place_in ns y)) f.rows_are

    pub at_forth : (x y : Node) → SameAt k a x y → SameNode ls x y
    at_forth x y h = has_forth x y (context_stands k.empty (row_of rows (place_in ns x)) a (place_in ns y) none (sym (ap (λ z. member z a) (context_is x y)) ∙ h))

    pub at_back : (x y : Node) → SameNode ls x y → SameAt k a x y
    at_back x y e = ap (λ z. member z a) (context_is x y) ∙ stands_context k.empty (length rows) 0 (row_of rows (place_in ns x)) a (place_in ns y) (asc.each (place_in ns x)) (has_back x y e)

    arc_at_forth : (x : Node) (n : Name) (t : Node) → HasArcAt k a x n t → HasArc ls x n t
    arc_at_forth x n t h =
        let i : In (h.from, n, h.to, h.ctx) list = subst (λ (xs : List (Node × Name × Node × Set)). In (h.from, n, h.to, h.ctx) xs) f.arcs h.listed in
        arc (at_forth x h.from h.start) (arc_forth ns literals list s c a h.from n h.to h.ctx i h.holds) (at_forth h.to t h.end)

    arc_at_back : (x : Node) (n : Name) (t : Node) → HasArc ls x n t → HasArcAt k a x n t
    arc_at_back x n t (arc {n = m} {u} e i g) =
        let p = arc_back ns literals list s c a m n u i in
        record {
          from = m;
          to = u;
          ctx = p.0;
          listed = subst (λ (xs : List (Node × Name × Node × Set)). In (m, n, u, p.0) xs) (sym f.arcs) p.1;
          holds = p.2;
          start = at_back x m e;
          end = at_back u t g;
        }

    value_at_forth : (x : Node) (v : Constant) → HasValueAt k a x v → HasValue ls x v
    value_at_forth x v h =
        let i : In (h.at, v, h.ctx) (flat_map values_in literals) = subst (λ (xs : List (Node × Constant × Set)). In (h.at, v, h.ctx) xs) f.values h.listed in
        value (at_forth x h.at h.same) (value_forth h.at v h.ctx i h.holds)

    value_at_back : (x : Node) (v : Constant) → HasValue ls x v → HasValueAt k a x v
    value_at_back x v (value {n} e i) =
        let p = value_back n v i in
        record { at = n; ctx = p.0; listed = subst (λ (xs : List (Node × Constant × Set)). In (n, v, p.0) xs) (sym f.values) p.1; holds = p.2; same = at_back x n e }

    member_at_forth : (x m : Node) → HasMemberAt k a x m → HasMember ls x m
    member_at_forth x m h =
        let i : In (h.item, h.set, h.ctx) (flat_map members_in literals) = subst (λ (xs : List (Node × Node × Set)). In (h.item, h.set, h.ctx) xs) f.members h.listed in
        member_of (at_forth x h.set h.same) (member_forth h.item h.set h.ctx i h.holds) (at_forth h.item m h.is)

    member_at_back : (x m : Node) → HasMember ls x m → HasMemberAt k a x m
    member_at_back x m (member_of {n} {k = t} e i g) =
        let p = member_back t n i in
        record {
          item = t;
          set = n;
          ctx = p.0;
          listed = subst (λ (xs : List (Node × Node × Set)). In (t, n, p.0) xs) (sym f.members) p.1;
          holds = p.2;
          same = at_back x n e;
          is = at_back t m g;
        }

    pub alike : AreAlike (closure_at k a) (solution ls)
    alike = record {
      same = λ x y. (at_forth x y, at_back x y);
      arc = λ x n t. (arc_at_forth x n t, arc_at_back x n t);
      value = λ x v. (value_at_forth x v, value_at_back x v);
      member = λ x m. (member_at_forth x m, member_at_back x m);
    }

    pub there_arc : (x : Node) (n : Name) (t : Node) (z : Set) → In (x, n, t, z) k.arcs → member z a ≡ true → SameAt k a x x × SameAt k a t t
    there_arc x n t z i m =
        let r = arc_forth ns literals list s c a x n t z (subst (λ (xs : List (Node × Name × Node × Set)). In (x, n, t, z) xs) f.arcs i) m in
        let e = (literals_between ls).arc_ends x n t r in
        (at_back x x (itself e.0), at_back t t (itself e.1))

    pub there_value : (x : Node) (v : Constant) (z : Set) → In (x, v, z) k.values → member z a ≡ true → SameAt k a x x
    there_value x v z i m =
        at_back x x (itself (value_node ls x v (value_forth x v z (subst (λ (xs : List (Node × Constant × Set)). In (x, v, z) xs) f.values i) m)))

    pub there_member : (y x : Node) (z : Set) → In (y, x, z) k.members → member z a ≡ true → SameAt k a y y × SameAt k a x x
    there_member y x z i m =
        let e = member_node ls y x (member_forth y x z (subst (λ (xs : List (Node × Node × Set)). In (y, x, z) xs) f.members i) m) in
        (at_back y y (itself e.0), at_back x x (itself e.1))

-- a row of the list is the row of a place
row_in : (rows : List Row) (P : Row → Type 0) → ((i : ℕ) → P (row_of rows i)) → (row : Row) → In row rows → P row
row_in rows P all row h = let p = In-place h in subst P (p.2 []) (all p.0)

-- all together
pub closes : (known : Known) (ns : List Node) (literals : List (Literal × Set)) (list : List (Node × Name × Node × Set)) (s : System) (rows : List Row) (k : Closed)
    → IsCollected ns literals list s → Solves s rows → AreAscending rows → length rows ≡ length ns → AreRows known rows → AreMade known (λ r. r.3) list → AreMade known (λ l. l.1) literals
    → IsFinished ns rows list (flat_map values_in literals) (flat_map members_in literals) k.clash k.empty k
    → IsMade known k.clash → IsMade known k.empty → ((a : Assignment) → member k.empty a ≡ false)
    → Tells k.clash (InSome (map (placed_in ns) (flat_map values_in literals)) (Clashes rows (map (placed_in ns) (flat_map values_in literals)) (map (source_in ns) list) (map (set_in ns) (flat_map members_in literals))))
    → IsClosureOf known literals k
closes known ns literals list s rows k c solves asc count made arcs_of made_ls f clash_made empty_made none tells = record {
  made = record {
    rows = subst (λ (rs : List Row). (row : Row) → In row rs → AreMade known (λ r. r.1) row) (sym f.rows_are) (row_in rows (λ row. AreMade known (λ r. r.1) row) (λ i. row_made (row_of rows i) (made.each i)));
    arcs = subst (λ (xs : List (Node × Name × Node × Set)). AreMade known (λ r. r.3) xs) (sym f.arcs) arcs_of;
    values = subst (λ (xs : List (Node × Constant × Set)). AreMade known (λ r. r.2) xs) (sym f.values) (values_made literals made_ls);
    members = subst (λ (xs : List (Node × Node × Set)). AreMade known (λ r. r.2) xs) (sym f.members) (members_made literals made_ls);
    clash = clash_made;
    empty = empty_made;
  };
  nodes = subst (λ (ms : List Node). Lists node_cmp (λ n. In n (nodes (literals_of literals))) ms) (sym f.nodes) (all_listed literals ns c.nodes);
  none = none;
  some = λ row r i j.
      let h : In row rows = subst (λ (rs : List Row). In row rs) f.rows_are i in
      ((row_in rows (λ row. IsRow known row) made.each row h).each r j).some;
  there = record {
    arc = λ a x n t z i m. there_arc ns literals list s c rows solves asc count a k f (none a) x n t z i m;
    value = λ a x v z i m. there_value ns literals list s c rows solves asc count a k f (none a) x v z i m;
    member = λ a y x z i m. there_member ns literals list s c rows solves asc count a k f (none a) y x z i m;
  };
  alike = λ a. alike ns literals list s c rows solves asc count a k f (none a);
  clash = record {
    each = λ a. (
      (λ h. clash_forth ns literals list s c rows solves asc count a ((tells.each a).0 h)),
      (λ h. (tells.each a).1 (clash_back ns literals list s c rows solves asc count a h)),
    );
  };
}
