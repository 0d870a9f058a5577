use Rattle.lfg_context.specs.Tables.{arity_in}
use Rattle.lfg_context.specs.Least.{IsPath}
use Rattle.lfg_context.proofs.diagram.Diagram.least.Given as goal

abbrev pub invariant-loop-choice : goal.invariant-loop-choice
invariant-loop-choice l = IsPath l.self.nodes.entries (arity_in l.arities) l.number l.least.items l.choice l.left
