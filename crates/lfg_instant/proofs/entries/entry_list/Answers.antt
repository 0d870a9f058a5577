use Rattle.lfg_instant.proofs.EntryLaws.{entries_stand}
use Rattle.lfg_instant.proofs.entries.entry_list.Goals as goal

pub returns : goal.returns
returns c = rw c.in_ok-list.ensures (entries_stand c.args.grammar.now c.args.tokens.now c.requires.loaded c.args.edge.now c.requires.stands c.in_ok-entries.entries.items c.in_ok-entries.ensures)
