-- What `node_cmp` is at each pair of variants.
use Rattle.std.proofs.Common.{◌≡◌, ℕ, ◌<◌, List, length, refl, ap, sym, subst, ◌∙◌, arith}
use Rattle.std.specs.declared.cmp.Ordering.{Ordering}
use Rattle.std.specs.declared.cmp.Ordering.TheVariants.{Less, Equal, Greater}
use Rattle.std.specs.Ordering.{nat_cmp, ordering_then}
use Rattle.std.specs.Cmp.Lexicographic.{slice_cmp}
use Rattle.lfg_terms.specs.Order.{name_cmp, edge_cmp, node_depth, node_layer_cmp, node_cmp, arg_cmp}
use Rattle.lfg_terms.specs.OrderLaws.{node_cmp_layer}
use Rattle.lfg_terms.proofs.Depths.{node_depth-At}
use Rattle.lfg_terms.specs.declared.node.Edge.{Edge}
use Rattle.lfg_terms.specs.declared.node.Node.{Node, out-Node}
use Rattle.lfg_terms.specs.declared.node.Node.TheVariants as node
use Rattle.lfg_terms.specs.declared.node.Node.TheVariants.{rolls-At, rolls-New}
use Rattle.lfg_terms.specs.declared.node.Arg.{Arg}
use Rattle.lfg_terms.specs.declared.node.Arg.TheOpen.{Node-F}
use Rattle.lfg_terms.specs.declared.node.Arg.TheOpen as layer
use Rattle.lfg_terms.specs.declared.node.Arg.TheViews.{out-roll-Node}

nat_cmp-less : (m n : ℕ) → m < n → nat_cmp m n ≡ Less
nat_cmp-less m n h = grind arith

nat_cmp-greater : (m n : ℕ) → n < m → nat_cmp m n ≡ Greater
nat_cmp-greater m n h = grind arith

nat_cmp-same : (n : ℕ) → nat_cmp n n ≡ Equal
nat_cmp-same n = grind arith

pub node_cmp-deeper : (a b : Node) → node_depth b < node_depth a → node_cmp a b ≡ Greater
node_cmp-deeper a b h = node_cmp_layer a b ∙ ap (λ o. ordering_then o (node_layer_cmp arg_cmp (out-Node a) (out-Node b))) (nat_cmp-greater (node_depth a) (node_depth b) h)

pub node_cmp-shallower : (a b : Node) → node_depth a < node_depth b → node_cmp a b ≡ Less
node_cmp-shallower a b h = node_cmp_layer a b ∙ ap (λ o. ordering_then o (node_layer_cmp arg_cmp (out-Node a) (out-Node b))) (nat_cmp-less (node_depth a) (node_depth b) h)

node_cmp-level : (a b : Node) → node_depth a ≡ node_depth b → node_cmp a b ≡ node_layer_cmp arg_cmp (out-Node a) (out-Node b)
node_cmp-level a b h =
    let e : nat_cmp (node_depth a) (node_depth b) ≡ Equal = subst (λ m. nat_cmp (node_depth a) m ≡ Equal) h (nat_cmp-same (node_depth a)) in
    node_cmp_layer a b ∙ ap (λ o. ordering_then o (node_layer_cmp arg_cmp (out-Node a) (out-Node b))) e

out-At : (e : Edge) (p : List (List ℕ)) → out-Node (node.At e p) ≡ layer.At e p
out-At e p = ap out-Node (sym (rolls-At e p)) ∙ out-roll-Node (layer.At e p)

out-New : (rule : ℕ) (var : List ℕ) (binding : List Arg) → out-Node (node.New rule var binding) ≡ layer.New rule var binding
out-New rule var binding = ap out-Node (sym (rolls-New rule var binding)) ∙ out-roll-Node (layer.New rule var binding)

regroup : (o p q : Ordering) → ordering_then (ordering_then o (ordering_then p q)) Equal ≡ ordering_then (ordering_then o p) q
regroup Less p q = refl
regroup Greater p q = refl
regroup Equal Less q = refl
regroup Equal Greater q = refl
regroup Equal Equal Less = refl
regroup Equal Equal Equal = refl
regroup Equal Equal Greater = refl

ordering_then-assoc : (o p q : Ordering) → ordering_then o (ordering_then p q) ≡ ordering_then (ordering_then o p) q
ordering_then-assoc Less p q = refl
ordering_then-assoc Equal p q = refl
ordering_then-assoc Greater p q = refl

pub node_cmp-At : (e f : Edge) (p q : List (List ℕ)) →
    node_cmp (node.At e p) (node.At f q) ≡ ordering_then (ordering_then (nat_cmp (length p) (length q)) (edge_cmp e f)) (slice_cmp name_cmp p q)
node_cmp-At e f p q =
    node_cmp-level _ _ (node_depth-At e p ∙ sym (node_depth-At f q)) ∙ (λ i. node_layer_cmp arg_cmp (out-At e p i) (out-At f q i))
    ∙ regroup (nat_cmp (length p) (length q)) (edge_cmp e f) (slice_cmp name_cmp p q)

pub node_cmp-New : (r s : ℕ) (v w : List ℕ) (xs ys : List Arg) → node_depth (node.New r v xs) ≡ node_depth (node.New s w ys) →
    node_cmp (node.New r v xs) (node.New s w ys) ≡ ordering_then (ordering_then (nat_cmp r s) (name_cmp v w)) (slice_cmp arg_cmp xs ys)
node_cmp-New r s v w xs ys h =
    node_cmp-level _ _ h ∙ (λ i. node_layer_cmp arg_cmp (out-New r v xs i) (out-New s w ys i))
    ∙ ordering_then-assoc (nat_cmp r s) (name_cmp v w) (slice_cmp arg_cmp xs ys)
