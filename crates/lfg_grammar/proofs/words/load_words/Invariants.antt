use Rattle.std.proofs.Common.{map, take}
use Rattle.lfg_model.specs.DraftForms.{word_form}
use Rattle.lfg_model.specs.Loads.{LoadsWord}
use Rattle.lfg_model.specs.Templates.{Each}
use Rattle.lfg_grammar.proofs.words.load_words.Given as goal

abbrev pub invariant-loop-word : goal.invariant-loop-word
invariant-loop-word l = Each (LoadsWord l.depth) (map word_form (take l.word-index l.words)) l.out.items
