-- What compares as equal is equal.
use Rattle.std.proofs.Common.{◌≡◌, ◌↔◌, IsTrue, true, ℕ, zero, suc, ◌<◌, ◌≤◌, List, [], ◌∷◌, map, length, refl, ap, sym, subst, ◌∙◌, arith}
use Rattle.std.specs.declared.cmp.Ordering.{Ordering}
use Rattle.std.specs.declared.cmp.Ordering.TheVariants.{Less, Equal, Greater}
use Rattle.std.specs.Ordering.{nat_cmp, ordering_then, is_eq, eq_by_cmp}
use Rattle.std.specs.Cmp.{IsTotalOrder}
use Rattle.std.proofs.lemmas.Cmp.{eq_by_cmp_equiv, nat_list_cmp_total}
use Rattle.std.specs.Cmp.Lexicographic.{slice_cmp}
use Rattle.lfg_terms.specs.Order.{greatest, name_cmp, edge_cmp, arg_depth, node_depth, node_layer_cmp, arg_layer_cmp, node_order, arg_order, node_cmp_to, node_cmp, arg_cmp, fact_cmp}
use Rattle.lfg_terms.specs.PathOrder.{path_cmp, path_cmp_total}
use Rattle.lfg_terms.specs.declared.node.Fact.{Fact}
use Rattle.lfg_terms.specs.OrderLaws.{node_depth_of, arg_depth_of, node_depth_out, arg_depth_out, node_cmp_deeper, edge_cmp_total, node_cmp_total, arg_cmp_total, fact_cmp_total}
use Rattle.lfg_terms.specs.declared.node.Edge.{Edge}
use Rattle.lfg_terms.specs.declared.node.Node.{Node, out-Node}
use Rattle.lfg_terms.specs.declared.node.Arg.{Arg, out-Arg}
use Rattle.lfg_terms.specs.declared.node.Arg.TheOpen.{Node-F, Arg-F}
use Rattle.lfg_terms.specs.declared.node.Arg.TheOpen as layer
use Rattle.lfg_terms.specs.declared.node.Arg.TheViews.{roll-Node, roll-Arg, roll-out-Node, roll-out-Arg}

-- both of two orders in a row answer `Equal`
both_equal : (o p : Ordering) → ordering_then o p ≡ Equal → (o ≡ Equal) × (p ≡ Equal)
both_equal Less p h = cc
both_equal Equal p h = (refl, h)
both_equal Greater p h = cc

pub nat_ties : (m n : ℕ) → nat_cmp m n ≡ Equal → m ≡ n
nat_ties m n h = grind arith

module _ {X : Type 0} (R : X → X → Ordering) (f : X → ℕ) (n : ℕ) (ties : (x y : X) → f x < n → R x y ≡ Equal → x ≡ y) where
  slice_ties_below : (xs ys : List X) → greatest (map f xs) < n → slice_cmp R xs ys ≡ Equal → xs ≡ ys
  slice_ties_below [] [] d h = refl
  slice_ties_below [] (y ∷ ys) d h = cc
  slice_ties_below (x ∷ xs) [] d h = cc
  slice_ties_below (x ∷ xs) (y ∷ ys) d h =
      let b = both_equal (R x y) (slice_cmp R xs ys) h in
      let e : x ≡ y = ties x y (omega arith) b.0 in
      let k : xs ≡ ys = slice_ties_below xs ys (omega arith) b.1 in
      λ i. e i ∷ k i

pub slice_ties : {X : Type 0} (R : X → X → Ordering) → ((x y : X) → R x y ≡ Equal → x ≡ y) → (xs ys : List X) → slice_cmp R xs ys ≡ Equal → xs ≡ ys
slice_ties R ties [] [] h = refl
slice_ties R ties [] (y ∷ ys) h = cc
slice_ties R ties (x ∷ xs) [] h = cc
slice_ties R ties (x ∷ xs) (y ∷ ys) h =
    let b = both_equal (R x y) (slice_cmp R xs ys) h in
    let e : x ≡ y = ties x y b.0 in
    let k : xs ≡ ys = slice_ties R ties xs ys b.1 in
    λ i. e i ∷ k i

pub name_ties : (v w : List ℕ) → name_cmp v w ≡ Equal → v ≡ w
name_ties = slice_ties nat_cmp nat_ties

pub path_ties : (p q : List (List ℕ)) → path_cmp p q ≡ Equal → p ≡ q
path_ties p q h = slice_ties name_cmp name_ties p q (both_equal (nat_cmp (length p) (length q)) (slice_cmp name_cmp p q) h).1

pub edge_ties : (e f : Edge) → edge_cmp e f ≡ Equal → e ≡ f
edge_ties e f h =
    let o = both_equal (nat_cmp e.from f.from) (ordering_then (nat_cmp f.to e.to) (name_cmp e.cat f.cat)) h in
    let p = both_equal (nat_cmp f.to e.to) (name_cmp e.cat f.cat) o.1 in
    let a : e.from ≡ f.from = nat_ties e.from f.from o.0 in
    let b : f.to ≡ e.to = nat_ties f.to e.to p.0 in
    let c : e.cat ≡ f.cat = name_ties e.cat f.cat p.1 in
    let d : e.to ≡ f.to = sym b in
    λ i. record { cat = c i; from = a i; to = d i }

module _ (n : ℕ) (R : Arg → Arg → Ordering) (ties : (x y : Arg) → arg_depth x < n → R x y ≡ Equal → x ≡ y) where
  layer_ties : (l k : Node-F Arg Node) → node_depth_of l ≤ n → node_layer_cmp R l k ≡ Equal → l ≡ k
  layer_ties (layer.At e p) (layer.At f q) d h =
      let o = both_equal (ordering_then (nat_cmp (length p) (length q)) (ordering_then (edge_cmp e f) (slice_cmp name_cmp p q))) Equal h in
      let s = both_equal (nat_cmp (length p) (length q)) (ordering_then (edge_cmp e f) (slice_cmp name_cmp p q)) o.0 in
      let t = both_equal (edge_cmp e f) (slice_cmp name_cmp p q) s.1 in
      let a : e ≡ f = edge_ties e f t.0 in
      let b : p ≡ q = slice_ties name_cmp name_ties p q t.1 in
      λ i. layer.At (a i) (b i)
  layer_ties (layer.At e p) (layer.New r v b) d h = cc
  layer_ties (layer.New r v b) (layer.At e p) d h = cc
  layer_ties (layer.New r v xs) (layer.New s w ys) d h =
      let o = both_equal (nat_cmp r s) (ordering_then (name_cmp v w) (slice_cmp R xs ys)) h in
      let p = both_equal (name_cmp v w) (slice_cmp R xs ys) o.1 in
      let a : r ≡ s = nat_ties r s o.0 in
      let b : v ≡ w = name_ties v w p.0 in
      let c : xs ≡ ys = slice_ties_below R arg_depth n ties xs ys d p.1 in
      λ i. layer.New (a i) (b i) (c i)

  order_ties : (a b : Node) → node_depth a ≤ n → node_order R a b ≡ Equal → a ≡ b
  order_ties a b d h =
      let e : out-Node a ≡ out-Node b = layer_ties (out-Node a) (out-Node b) (subst (λ (m : ℕ). m ≤ n) (node_depth_out a) d) (both_equal (nat_cmp (node_depth a) (node_depth b)) (node_layer_cmp R (out-Node a) (out-Node b)) h).1 in
      sym (roll-out-Node a) ∙ ap roll-Node e ∙ roll-out-Node b

module _ (n : ℕ) (R : Node → Node → Ordering) (ties : (a b : Node) → node_depth a ≤ n → R a b ≡ Equal → a ≡ b) where
  arg_layer_ties : (l k : Arg-F Arg Node) → arg_depth_of l ≤ n → arg_layer_cmp R l k ≡ Equal → l ≡ k
  arg_layer_ties (layer.Atom v) (layer.Atom w) d h =
      let e : v ≡ w = name_ties v w (both_equal (name_cmp v w) Equal h).0 in
      ap (λ x. layer.Atom x) e
  arg_layer_ties (layer.Atom v) (layer.Node b) d h = cc
  arg_layer_ties (layer.Node a) (layer.Atom w) d h = cc
  arg_layer_ties (layer.Node a) (layer.Node b) d h = ap (λ x. layer.Node x) (ties a b d h)

  arg_ties_by : (x y : Arg) → arg_depth x ≤ n → arg_order R x y ≡ Equal → x ≡ y
  arg_ties_by x y d h =
      let e : out-Arg x ≡ out-Arg y = arg_layer_ties (out-Arg x) (out-Arg y) (subst (λ (m : ℕ). m ≤ n) (arg_depth_out x) d) h in
      sym (roll-out-Arg x) ∙ ap roll-Arg e ∙ roll-out-Arg y

ties_to : (n : ℕ) (a b : Node) → node_depth a ≤ n → node_cmp_to n a b ≡ Equal → a ≡ b
ties_to zero a b d h = order_ties zero (λ x y. Equal) (λ x y z. let no : ⊥ = omega arith in absurd no) a b d h
ties_to (suc n) a b d h = order_ties (suc n) (arg_order (node_cmp_to n)) (λ x y z. arg_ties_by n (node_cmp_to n) (ties_to n) x y (omega arith)) a b d h

pub node_ties : (a b : Node) → node_cmp a b ≡ Equal → a ≡ b
node_ties a b h =
    let n = node_depth a in
    ties_to n a b (omega arith) (sym (node_cmp_deeper n a b (omega arith)) ∙ h)

pub arg_ties : (x y : Arg) → arg_cmp x y ≡ Equal → x ≡ y
arg_ties x y h = arg_ties_by (arg_depth x) node_cmp (λ a b d. node_ties a b) x y (omega arith) h

pub fact_ties : (f g : Fact) → fact_cmp f g ≡ Equal → f ≡ g
fact_ties f g h =
    let o = both_equal (name_cmp f.rel g.rel) (ordering_then (nat_cmp (length f.args) (length g.args)) (slice_cmp arg_cmp f.args g.args)) h in
    let p = both_equal (nat_cmp (length f.args) (length g.args)) (slice_cmp arg_cmp f.args g.args) o.1 in
    let a : f.rel ≡ g.rel = name_ties f.rel g.rel o.0 in
    let b : f.args ≡ g.args = slice_ties arg_cmp arg_ties f.args g.args p.1 in
    λ i. record { rel = a i; args = b i }

-- ---- an order answers `Equal`, and its `==` true, exactly at equal values

is_equal : (o : Ordering) → is_eq o ≡ true → o ≡ Equal
is_equal Less h = cc
is_equal Equal h = refl
is_equal Greater h = cc

module _ {X : Type 0} (R : X → X → Ordering) (total : IsTotalOrder R) (ties : (x y : X) → R x y ≡ Equal → x ≡ y) where
  eq_same : (x y : X) → IsTrue (eq_by_cmp R x y) ↔ (x ≡ y)
  eq_same x y = (λ h. ties x y (is_equal (R x y) h), λ s. subst (λ z. eq_by_cmp R x z ≡ true) s ((eq_by_cmp_equiv total).refl x))

  cmp_same : (x y : X) → (R x y ≡ Equal) ↔ (x ≡ y)
  cmp_same x y = (ties x y, λ s. is_equal (R x y) ((eq_same x y).1 s))

pub name_cmp_same : (v w : List ℕ) → (name_cmp v w ≡ Equal) ↔ (v ≡ w)
name_cmp_same = cmp_same name_cmp nat_list_cmp_total name_ties

pub path_cmp_same : (a b : List (List ℕ)) → (path_cmp a b ≡ Equal) ↔ (a ≡ b)
path_cmp_same = cmp_same path_cmp path_cmp_total path_ties

pub path_eq_same : (a b : List (List ℕ)) → IsTrue (eq_by_cmp path_cmp a b) ↔ (a ≡ b)
path_eq_same = eq_same path_cmp path_cmp_total path_ties

pub edge_cmp_same : (a b : Edge) → (edge_cmp a b ≡ Equal) ↔ (a ≡ b)
edge_cmp_same = cmp_same edge_cmp edge_cmp_total edge_ties

pub edge_eq_same : (a b : Edge) → IsTrue (eq_by_cmp edge_cmp a b) ↔ (a ≡ b)
edge_eq_same = eq_same edge_cmp edge_cmp_total edge_ties

pub node_cmp_same : (a b : Node) → (node_cmp a b ≡ Equal) ↔ (a ≡ b)
node_cmp_same = cmp_same node_cmp node_cmp_total node_ties

pub node_eq_same : (a b : Node) → IsTrue (eq_by_cmp node_cmp a b) ↔ (a ≡ b)
node_eq_same = eq_same node_cmp node_cmp_total node_ties

pub arg_cmp_same : (a b : Arg) → (arg_cmp a b ≡ Equal) ↔ (a ≡ b)
arg_cmp_same = cmp_same arg_cmp arg_cmp_total arg_ties

pub arg_eq_same : (a b : Arg) → IsTrue (eq_by_cmp arg_cmp a b) ↔ (a ≡ b)
arg_eq_same = eq_same arg_cmp arg_cmp_total arg_ties

pub fact_cmp_same : (a b : Fact) → (fact_cmp a b ≡ Equal) ↔ (a ≡ b)
fact_cmp_same = cmp_same fact_cmp fact_cmp_total fact_ties

pub fact_eq_same : (a b : Fact) → IsTrue (eq_by_cmp fact_cmp a b) ↔ (a ≡ b)
fact_eq_same = eq_same fact_cmp fact_cmp_total fact_ties
