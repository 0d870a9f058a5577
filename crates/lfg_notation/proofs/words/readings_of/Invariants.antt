use Rattle.std.proofs.Common.{◌≡◌, length}
use Rattle.lfg_model.specs.declared.notation.Separator.TheVariants.{Semicolon}
use Rattle.lfg_model.specs.EntryNotation.{cut, readings_of}
use Rattle.lfg_notation.specs.Views.{words_form}
use Rattle.lfg_notation.proofs.PieceLaws.{after}
use Rattle.lfg_notation.proofs.words.readings_of.Given as goal

abbrev pub invariant-loop-rest : goal.invariant-loop-rest
invariant-loop-rest l = after (words_form l.words) (readings_of l.number l.form (cut Semicolon l.rest)) ≡ readings_of l.number l.form (cut Semicolon l.lexemes)

abbrev pub decreases-loop-rest : goal.decreases-loop-rest
decreases-loop-rest l = length l.rest
