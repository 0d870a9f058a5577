use Rattle.std.proofs.Common.{[], refl, codes}
use Rattle.lfg_grammar.proofs.Keys.{good_words}
use Rattle.lfg_grammar.proofs.settings.depth_of.Goals as goal

pub number_set-requires-clause-good : goal.number_set-requires-clause-good
number_set-requires-clause-good c = λ words e. good_words (codes "UNCERTAINTYDEPTH") 8 c.args.settings.now [] words c.requires.good refl e
