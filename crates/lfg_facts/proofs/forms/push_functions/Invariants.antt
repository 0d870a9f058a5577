use Rattle.std.proofs.Common.{◌≤◌, length}
use Rattle.lfg_facts.specs.Adding.{Adds}
use Rattle.lfg_facts.specs.Stating.{AreEntries, IsFunctionBelow}
use Rattle.lfg_facts.proofs.forms.push_functions.Given as goal

abbrev pub invariant-loop-place : goal.invariant-loop-place
invariant-loop-place l = record {
  facts : AreEntries l.contexts l.facts.items;
  place : l.place ≤ length l.functions;
  adds : Adds l.fn.facts.items l.facts.items (IsFunctionBelow l.place l.relation l.functions l.name l.here);
}
