use Rattle.std.proofs.Common.{take}
use Rattle.lfg_context.specs.Sets.{IsMade, AreMade, IsGrown, HasSamePicks}
use Rattle.lfg_context.specs.Telling.{Tells}
use Rattle.lfg_facts.specs.Adding.{Adds}
use Rattle.lfg_facts.specs.Naming.{IsNodeName, IsBefore}
use Rattle.lfg_facts.proofs.names.push_nodes.Given as goal

abbrev pub invariant-loop-entry : goal.invariant-loop-entry
invariant-loop-entry l = record {
  grown : IsGrown l.fn.contexts l.contexts;
  picks : HasSamePicks l.fn.contexts l.contexts;
  made : AreMade l.contexts (λ n. n.1) l.names.items;
  before_made : IsMade l.contexts l.before;
  before : Tells l.before (IsBefore l.valued (take l.entry-index l.row));
  adds : Adds l.fn.names.items l.names.items (IsNodeName l.nodes (take l.entry-index l.row) l.valued);
}
