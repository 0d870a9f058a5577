use Rattle.std.proofs.Common.{◌≡◌, take}
use Rattle.lfg_unify.proofs.nodes.node_at.Given as goal

abbrev pub invariant-loop-name : goal.invariant-loop-name
invariant-loop-name l = l.names.items ≡ take l.name-index l.path
