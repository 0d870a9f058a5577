use Rattle.std.proofs.Common.{◌≡◌, ◌≤◌, length}
use Rattle.lfg_context.specs.Sets.{IsGrown, HasSamePicks}
use Rattle.lfg_facts.specs.Naming.{AreNamesBelow, AreTableSets}
use Rattle.lfg_facts.proofs.names.names_of.Given as goal

abbrev pub invariant-loop-place : goal.invariant-loop-place
invariant-loop-place l = record {
  grown : IsGrown l.fn.contexts l.contexts;
  picks : HasSamePicks l.fn.contexts l.contexts;
  made : AreTableSets l.contexts l.table.items;
  place : l.place ≤ length l.closure.nodes;
  len : length l.table.items ≡ l.place;
  called : AreNamesBelow l.closure l.table.items;
}
