use Rattle.lfg_instant.proofs.WordLaws.{AreKeys}
use Rattle.lfg_instant.proofs.words.keys_of.Given as goal

abbrev pub invariant-loop-entry : goal.invariant-loop-entry
invariant-loop-entry l = record { keys : AreKeys l.lexicon l.entry l.token l.cat l.keys.items }
