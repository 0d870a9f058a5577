-- The order of tree facts is that of their edges.
use Rattle.std.proofs.Common.{◌≡◌, ◌<◌, [], ap, ◌∙◌, arith, ℕ}
use Rattle.std.specs.declared.cmp.Ordering.TheVariants.{Less, Equal}
use Rattle.std.specs.Ordering.{nat_cmp, ordering_then}
use denote.Hole.Carrier.{out}
use Rattle.lfg_terms.specs.Order.{name_cmp, edge_cmp, node_cmp, arg_cmp, fact_cmp}
use Rattle.lfg_terms.proofs.Layers.{node_cmp-At}
use Rattle.lfg_terms.specs.declared.node.Edge.{Edge}
use Rattle.lfg_terms.specs.declared.node.Node as node
use Rattle.lfg_terms.specs.declared.node.Arg as arg
use Rattle.lfg_terms.specs.declared.node.Arg.{out-Arg}
use Rattle.lfg_model.specs.Terms.{Name}
use Rattle.lfg_model.specs.Trees.{under, word}

node_before : (d d' : Edge) → edge_cmp d d' ≡ Less → node_cmp (node.At d []) (node.At d' []) ≡ Less
node_before d d' less = node_cmp-At d d' [] [] ∙ ap (λ o. ordering_then o Equal) less

pub under_before : (d m d' m' : Edge) → edge_cmp d d' ≡ Less → fact_cmp (under d m) (under d' m') ≡ Less
unfolding out-Arg out
under_before d m d' m' less = ap (λ o. ordering_then o (ordering_then (node_cmp (node.At m []) (node.At m' [])) Equal)) (node_before d d' less)

pub word_before : (d d' : Edge) (w w' : Name) → edge_cmp d d' ≡ Less → fact_cmp (word d w) (word d' w') ≡ Less
unfolding out-Arg out
word_before d d' w w' less = ap (λ o. ordering_then o (ordering_then (arg_cmp (arg.Atom w) (arg.Atom w')) Equal)) (node_before d d' less)

nat_before : (m n : ℕ) → m < n → nat_cmp m n ≡ Less
nat_before m n l = grind arith

-- an edge that begins earlier comes first
pub starts_before : (d d' : Edge) → d.from < d'.from → edge_cmp d d' ≡ Less
starts_before d d' l = ap (λ o. ordering_then o (ordering_then (nat_cmp d'.to d.to) (name_cmp d.cat d'.cat))) (nat_before d.from d'.from l)
