use Rattle.std.proofs.Common.{◌≡◌, ◌+◌, length}
use Rattle.lfg_context.specs.Tables.{arity_in, IsTable, Extends}
use Rattle.lfg_context.specs.Ops.{AreResults, AreCombined}
use Rattle.lfg_context.proofs.diagram.Diagram.+combine.Given as goal

abbrev pub decreases-combine : goal.decreases-combine
decreases-combine l = l.left + l.right

abbrev pub invariant-loop-alternative : goal.invariant-loop-alternative
invariant-loop-alternative l = record {
  table : IsTable l.self.nodes.entries (arity_in l.arities) (length l.arities);
  results : AreResults l.self.nodes.entries l.self.results.entries;
  extends : Extends l.fn.self.nodes.entries l.self.nodes.entries;
  children : AreCombined l.fn.self.nodes.entries l.self.nodes.entries (arity_in l.arities) (length l.arities) l.choice l.op l.left l.right l.children.items;
  len : length l.children.items ≡ l.alternative;
}
