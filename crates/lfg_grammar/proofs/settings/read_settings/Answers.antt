use Rattle.std.proofs.Common.{[], refl, codes}
use Rattle.lfg_grammar.proofs.Keys.{good_words}
use Rattle.lfg_grammar.proofs.settings.read_settings.Goals as goal

pub number_set-requires-clause-good : goal.number_set-requires-clause-good
number_set-requires-clause-good c = λ words e. good_words (codes "GENSIZE") 400 c.args.settings.now [] words c.requires.good refl e

pub number_set-requires-2-clause-good : goal.number_set-requires-2-clause-good
number_set-requires-2-clause-good c = λ words e. good_words (codes "MAXFACTS") 200000 c.args.settings.now [] words c.requires.good refl e
