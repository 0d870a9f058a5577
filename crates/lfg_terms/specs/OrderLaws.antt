-- The laws of the orders: proofs, which stand here since the comparisons of the types cite that their orders are total.
use Rattle.std.proofs.Common.{length, ◌≡◌, ℕ, zero, suc, ◌+◌, ◌-◌, ◌≤◌, ◌<◌, max, List, [], ◌∷◌, map, refl, sym, ◌∙◌, ap, subst, arith, rules}
use Rattle.std.specs.declared.cmp.Ordering.{Ordering}
use Rattle.std.specs.declared.cmp.Ordering.TheVariants.{Equal}
use Rattle.std.specs.Ordering.{nat_cmp, on, then_cmp, ordering_then, ordering_reverse}
use Rattle.std.specs.Cmp.{IsTotalOrder}
use Rattle.std.proofs.lemmas.Cmp.{then_total, on_total, nat_cmp_total, nat_list_cmp_total, lists_total}
use Rattle.std.specs.Cmp.Lexicographic.{options_total}
use Rattle.std.specs.Cmp.Rules.{comparing}
use Rattle.std.specs.Cmp.Lexicographic.{slice_cmp}
use Rattle.std.specs.Option.{option_cmp}
use Rattle.lfg_terms.specs.declared.node.Node.{Node, out-Node}
use Rattle.lfg_terms.specs.declared.node.Arg.{Arg, out-Arg}
use Rattle.lfg_terms.specs.declared.node.Arg.TheOpen.{Node-F, Arg-F}
use Rattle.lfg_terms.specs.declared.node.Arg.TheOpen as layer
use Rattle.lfg_terms.specs.declared.node.Arg.TheFolds.{fold_out-Node, fold_out-Arg, map-Node, map-Arg}
use Rattle.lfg_terms.specs.Order.{greatest, arg_depth_step, node_depth_step, node_depth, arg_depth, name_cmp, edge_cmp, at_cmp, node_kind, at_parts, new_parts, arg_kind, atom_part, node_part, new_cmp, node_layer_cmp, node_order, arg_order, node_cmp_to, node_cmp, arg_cmp, fact_cmp}

-- ---- each order is total, where the order of what is inside is

pub edge_cmp_total : IsTotalOrder edge_cmp
edge_cmp_total = search (comparing, rules)

at_cmp_total : IsTotalOrder at_cmp
at_cmp_total = search (comparing, rules, edge_cmp_total) depth 9

-- the order in which all are equal
tied_total : {X : Type 0} → IsTotalOrder {K = X} (λ x y. Equal)
tied_total = record { antisymm = λ x y. refl; trans = λ x y z h k. h; congr = λ x y z h. refl }

new_cmp_total : (R : Arg → Arg → Ordering) → IsTotalOrder R → IsTotalOrder (new_cmp R)
new_cmp_total R t =
    then_total (on_total (λ p. p.0) nat_cmp_total) (then_total (on_total (λ p. p.1) nat_list_cmp_total) (on_total (λ p. p.2) (lists_total t)))

node_layer_total : (R : Arg → Arg → Ordering) → IsTotalOrder R → IsTotalOrder (node_layer_cmp R)
node_layer_total R t =
    then_total (on_total node_kind nat_cmp_total)
    (then_total (on_total at_parts (options_total at_cmp_total)) (on_total new_parts (options_total (new_cmp_total R t))))

node_order_total : (R : Arg → Arg → Ordering) → IsTotalOrder R → IsTotalOrder (node_order R)
node_order_total R t = then_total (on_total node_depth nat_cmp_total) (on_total out-Node (node_layer_total R t))

arg_order_total : (R : Node → Node → Ordering) → IsTotalOrder R → IsTotalOrder (arg_order R)
arg_order_total R t =
    on_total out-Arg
    (then_total (on_total arg_kind nat_cmp_total)
    (then_total (on_total atom_part (options_total nat_list_cmp_total)) (on_total node_part (options_total t))))

node_cmp_to_total : (n : ℕ) → IsTotalOrder (node_cmp_to n)
node_cmp_to_total zero = node_order_total _ tied_total
node_cmp_to_total (suc n) = node_order_total _ (arg_order_total _ (node_cmp_to_total n))

-- ---- a node is compared alike at each depth that is at least its own

abbrev pub node_depth_of : Node-F Arg Node → ℕ
node_depth_of l = node_depth_step (map-Node Arg Node ℕ ℕ arg_depth node_depth l)

abbrev pub arg_depth_of : Arg-F Arg Node → ℕ
arg_depth_of l = arg_depth_step (map-Arg Arg Node ℕ ℕ arg_depth node_depth l)

pub node_depth_out : (a : Node) → node_depth a ≡ node_depth_of (out-Node a)
node_depth_out a = fold_out-Node ℕ ℕ arg_depth_step node_depth_step a

pub arg_depth_out : (x : Arg) → arg_depth x ≡ arg_depth_of (out-Arg x)
arg_depth_out x = fold_out-Arg ℕ ℕ arg_depth_step node_depth_step x

module _ (n : ℕ) (R S : Arg → Arg → Ordering) (same : (x y : Arg) → arg_depth x < n → R x y ≡ S x y) where
  list_same : (xs ys : List Arg) → greatest (map arg_depth xs) < n → slice_cmp R xs ys ≡ slice_cmp S xs ys
  list_same [] [] d = refl
  list_same [] (y ∷ ys) d = refl
  list_same (x ∷ xs) [] d = refl
  list_same (x ∷ xs) (y ∷ ys) d =
      let here : R x y ≡ S x y = same x y (omega arith) in
      let rest : slice_cmp R xs ys ≡ slice_cmp S xs ys = list_same xs ys (omega arith) in
      λ i. ordering_then (here i) (rest i)

  layer_same : (l k : Node-F Arg Node) → node_depth_of l ≤ n → node_layer_cmp R l k ≡ node_layer_cmp S l k
  layer_same (layer.At edge path) (layer.At edge' path') d = refl
  layer_same (layer.At edge path) (layer.New rule var binding) d = refl
  layer_same (layer.New rule var binding) (layer.At edge path) d = refl
  layer_same (layer.New rule var binding) (layer.New rule' var' binding') d =
      let e : slice_cmp R binding binding' ≡ slice_cmp S binding binding' = list_same binding binding' (omega arith) in
      λ i. ordering_then (nat_cmp rule rule') (ordering_then (name_cmp var var') (e i))

  node_same : (a b : Node) → node_depth a ≤ n → node_order R a b ≡ node_order S a b
  node_same a b d =
      let e : node_depth_of (out-Node a) ≤ n = subst (λ (m : ℕ). m ≤ n) (node_depth_out a) d in
      λ i. ordering_then (nat_cmp (node_depth a) (node_depth b)) (layer_same (out-Node a) (out-Node b) e i)

module _ (n : ℕ) (R S : Node → Node → Ordering) (same : (a b : Node) → node_depth a ≤ n → R a b ≡ S a b) where
  arg_layer_same : (l k : Arg-F Arg Node) → arg_depth_of l ≤ n →
      then_cmp (on arg_kind nat_cmp) (then_cmp (on atom_part (option_cmp name_cmp)) (on node_part (option_cmp R))) l k
      ≡ then_cmp (on arg_kind nat_cmp) (then_cmp (on atom_part (option_cmp name_cmp)) (on node_part (option_cmp S))) l k
  arg_layer_same (layer.Atom x) (layer.Atom y) d = refl
  arg_layer_same (layer.Atom x) (layer.Node y) d = refl
  arg_layer_same (layer.Node x) (layer.Atom y) d = refl
  arg_layer_same (layer.Node x) (layer.Node y) d = same x y d

  arg_same : (x y : Arg) → arg_depth x ≤ n → arg_order R x y ≡ arg_order S x y
  arg_same x y d = arg_layer_same (out-Arg x) (out-Arg y) (subst (λ (m : ℕ). m ≤ n) (arg_depth_out x) d)

stable : (n : ℕ) (a b : Node) → node_depth a ≤ n → node_cmp_to n a b ≡ node_cmp_to (suc n) a b
stable zero a b d = node_same zero (λ x y. Equal) (arg_order (node_cmp_to zero)) (λ x y h. let no : ⊥ = omega arith in absurd no) a b d
stable (suc n) a b d =
    node_same (suc n) (arg_order (node_cmp_to n)) (arg_order (node_cmp_to (suc n))) (λ x y h. arg_same n (node_cmp_to n) (node_cmp_to (suc n)) (stable n) x y (omega arith)) a b d

stable_on : (k n : ℕ) (a b : Node) → node_depth a ≤ n → node_cmp_to n a b ≡ node_cmp_to (k + n) a b
stable_on zero n a b d = let e : n ≡ zero + n = omega arith in ap (λ m. node_cmp_to m a b) e
stable_on (suc k) n a b d =
    let e : suc (k + n) ≡ suc k + n = omega arith in
    stable_on k n a b d ∙ stable (k + n) a b (omega arith) ∙ ap (λ m. node_cmp_to m a b) e

pub node_cmp_deeper : (n : ℕ) (a b : Node) → node_depth a ≤ n → node_cmp a b ≡ node_cmp_to n a b
unfolding node_cmp
node_cmp_deeper n a b d =
    let e : n - node_depth a + node_depth a ≡ n = omega arith in
    stable_on (n - node_depth a) (node_depth a) a b (omega arith) ∙ ap (λ m. node_cmp_to m a b) e

-- what `node_cmp` is: the order of one layer, with itself at the nodes inside
pub node_cmp_layer : (a b : Node) → node_cmp a b ≡ node_order arg_cmp a b
node_cmp_layer a b =
    node_cmp_deeper (suc (node_depth a)) a b (omega arith)
    ∙ node_same (node_depth a) (arg_order (node_cmp_to (node_depth a))) arg_cmp (λ x y h. arg_same (node_depth a) (node_cmp_to (node_depth a)) node_cmp (λ c e d. sym (node_cmp_deeper (node_depth a) c e d)) x y (omega arith)) a b (omega arith)

-- ---- the orders that the comparisons of the types cite

pub node_cmp_total : IsTotalOrder node_cmp
node_cmp_total = record {
  antisymm = λ a b.
      let n = max (node_depth a) (node_depth b) in
      node_cmp_deeper n a b (omega arith) ∙ (node_cmp_to_total n).antisymm a b ∙ ap ordering_reverse (sym (node_cmp_deeper n b a (omega arith)));
  trans = λ a b c p q.
      let n = max (node_depth a) (node_depth b) in
      node_cmp_deeper n a c (omega arith) ∙ (node_cmp_to_total n).trans a b c (sym (node_cmp_deeper n a b (omega arith)) ∙ p) (sym (node_cmp_deeper n b c (omega arith)) ∙ q);
  congr = λ a b c p.
      let n = max (node_depth a) (node_depth b) in
      node_cmp_deeper n a c (omega arith) ∙ (node_cmp_to_total n).congr a b c (sym (node_cmp_deeper n a b (omega arith)) ∙ p) ∙ sym (node_cmp_deeper n b c (omega arith));
}

pub arg_cmp_total : IsTotalOrder arg_cmp
arg_cmp_total = arg_order_total node_cmp node_cmp_total

pub fact_cmp_total : IsTotalOrder fact_cmp
fact_cmp_total =
    then_total (on_total (λ f. f.rel) nat_list_cmp_total)
    (then_total (on_total (λ f. length f.args) nat_cmp_total) (on_total (λ f. f.args) (lists_total arg_cmp_total)))
