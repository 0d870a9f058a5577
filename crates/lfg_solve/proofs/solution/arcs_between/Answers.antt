use Rattle.std.proofs.Common.{List, arith, subst}
use Rattle.lfg_terms.specs.declared.node.Node.{Node}
use Rattle.lfg_solve.specs.Numbers.{Corresponds, IsArcOf, IsStepTo}
use Rattle.lfg_solve.proofs.Dividing.{In-read}
use Rattle.lfg_solve.proofs.Prefixes.{take_whole}
use Rattle.lfg_solve.proofs.Solving.{steps_read, arcs_within, no_steps}
use Rattle.lfg_solve.proofs.solution.arcs_between.Goals as goal

pub loop-node-init : goal.loop-node-init
loop-node-init c = rw c.new-arcs.ensures.items (no_steps _)

pub last_arc-requires-clause-listed : goal.last_arc-requires-clause-listed
last_arc-requires-clause-listed c = c.requires.listed _ (In-read _ _ _ (omega arith) c.node-item.is)

pub last_arc-requires-clause-before : goal.last_arc-requires-clause-before
last_arc-requires-clause-before c = λ x a s. c.requires.before x a _ (In-read _ _ _ (omega arith) c.node-item.is) s

pub loop-node-preserved : goal.loop-node-preserved
loop-node-preserved c = rw c.in_ok-push_some.ensures (steps_read _ _ _ _ _ _ (omega arith) c.node-item.is c.loop-node.invariant c.in_ok-last_arc.ensures)

pub returns-clause-exact : goal.returns-clause-exact
returns-clause-exact c = subst (λ (ts : List Node). Corresponds (IsArcOf c.args.nodes.now) (IsStepTo ts) c.loop-node.arcs.items) (take_whole c.loop-node.node-index c.args.defined.now (omega arith)) c.loop-node.invariant

pub returns-clause-within : goal.returns-clause-within
returns-clause-within c = arcs_within _ _ _ c.loop-node.invariant
