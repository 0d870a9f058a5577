use Rattle.lfg_instant.proofs.EntryLaws.{AreFirstLists}
use Rattle.lfg_instant.proofs.entries.entry_lists.Given as goal

abbrev pub invariant-loop-edge : goal.invariant-loop-edge
invariant-loop-edge l = AreFirstLists l.fn.grammar l.fn.tokens l.edges l.edge-index l.lists.items
