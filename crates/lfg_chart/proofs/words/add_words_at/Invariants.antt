use Rattle.std.proofs.Common.{take}
use Rattle.lfg_chart.specs.Tables.{HasRows}
use Rattle.lfg_chart.specs.Words.{Extends, IsWordAt}
use Rattle.lfg_chart.proofs.words.add_words_at.Given as goal

abbrev pub invariant-loop-lex : goal.invariant-loop-lex
invariant-loop-lex l = record { rows : HasRows l.rules l.table; words : Extends l.initial.table l.table (IsWordAt l.cats (take l.lex-index l.lexicon) l.token l.at) }
