use Rattle.std.proofs.Common.{◌≡◌, ◌++◌, drop}
use Rattle.lfg_context.specs.Sets.{assigned}
use Rattle.lfg_store.specs.Facts.{facts_at}
use Rattle.lfg_unpack.proofs.leaves.facts_of.Given as goal

abbrev pub invariant-loop-entry : goal.invariant-loop-entry
invariant-loop-entry l = l.facts.items ++ facts_at (drop l.entry-index l.entries) (assigned l.assignment) ≡ facts_at l.entries (assigned l.assignment)
