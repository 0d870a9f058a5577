use Rattle.std.proofs.Common.{◌≡◌, map, take}
use Rattle.lfg_model.specs.Thin.{lex_of_entry}
use Rattle.xle_run.specs.Drafts.{entry_view}
use Rattle.xle_run.proofs.thin.grammar.lexicon_of.Given as goal

abbrev pub invariant-loop-entry : goal.invariant-loop-entry
invariant-loop-entry l = l.lexicon.items ≡ map lex_of_entry (map entry_view (take l.entry-index l.entries))
