use Rattle.std.proofs.Common.{take}
use Rattle.lfg_instant.specs.Collects.{Collects}
use Rattle.lfg_instant.specs.Facts.{IsWordFactOf}
use Rattle.lfg_instant.proofs.facts.add_word_facts.Given as goal

abbrev pub invariant-loop-word : goal.invariant-loop-word
invariant-loop-word l = Collects l.fn.facts.items l.facts.items (IsWordFactOf l.tokens (take l.word-index l.words))
