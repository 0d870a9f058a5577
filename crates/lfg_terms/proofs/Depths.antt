-- The depths of the variants.
use Rattle.std.proofs.Common.{◌≡◌, ℕ, suc, List, map, ap, sym, ◌∙◌}
use Rattle.lfg_terms.specs.Order.{greatest, node_depth, arg_depth, arg_depth_step, node_depth_step}
use Rattle.lfg_terms.specs.declared.node.Edge.{Edge}
use Rattle.lfg_terms.specs.declared.node.Node.{Node}
use Rattle.lfg_terms.specs.declared.node.Node.TheVariants as node
use Rattle.lfg_terms.specs.declared.node.Node.TheVariants.{rolls-At, rolls-New}
use Rattle.lfg_terms.specs.declared.node.Arg.{Arg}
use Rattle.lfg_terms.specs.declared.node.Arg.TheVariants as arg
use Rattle.lfg_terms.specs.declared.node.Arg.TheVariants.{rolls-Atom, rolls-Node}
use Rattle.lfg_terms.specs.declared.node.Arg.TheOpen as layer
use Rattle.lfg_terms.specs.declared.node.Arg.TheFolds.{fold-roll-Node, fold-roll-Arg}

pub arg_depth-Atom : (name : List ℕ) → arg_depth (arg.Atom name) ≡ 0
arg_depth-Atom name = ap arg_depth (sym (rolls-Atom name)) ∙ fold-roll-Arg ℕ ℕ arg_depth_step node_depth_step (layer.Atom name)

pub arg_depth-Node : (n : Node) → arg_depth (arg.Node n) ≡ node_depth n
arg_depth-Node n = ap arg_depth (sym (rolls-Node n)) ∙ fold-roll-Arg ℕ ℕ arg_depth_step node_depth_step (layer.Node n)

pub node_depth-At : (e : Edge) (path : List (List ℕ)) → node_depth (node.At e path) ≡ 0
node_depth-At e path = ap node_depth (sym (rolls-At e path)) ∙ fold-roll-Node ℕ ℕ arg_depth_step node_depth_step (layer.At e path)

pub node_depth-New : (rule : ℕ) (var : List ℕ) (binding : List Arg) → node_depth (node.New rule var binding) ≡ suc (greatest (map arg_depth binding))
node_depth-New rule var binding = ap node_depth (sym (rolls-New rule var binding)) ∙ fold-roll-Node ℕ ℕ arg_depth_step node_depth_step (layer.New rule var binding)
