use Rattle.lfg_chart.specs.Tables.{HasRows}
use Rattle.lfg_chart.specs.Words.{Extends, AreWords}
use Rattle.lfg_chart.proofs.words.add_words.Given as goal

abbrev pub invariant-loop-at : goal.invariant-loop-at
invariant-loop-at l = record { rows : HasRows l.rules l.table; words : Extends l.initial.table l.table (AreWords l.cats l.lexicon l.tokens l.at) }
