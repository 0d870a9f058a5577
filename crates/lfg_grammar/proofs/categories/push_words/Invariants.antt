use Rattle.std.proofs.Common.{◌≡◌, ◌++◌, take}
use Rattle.lfg_grammar.specs.Categories.{word_cats}
use Rattle.lfg_grammar.proofs.categories.push_words.Given as goal

abbrev pub invariant-loop-word : goal.invariant-loop-word
invariant-loop-word l = l.cats.items ≡ l.fn.cats.items ++ word_cats (take l.word-index l.lexicon)
