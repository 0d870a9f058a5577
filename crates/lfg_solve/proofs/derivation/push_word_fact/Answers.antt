use Rattle.std.proofs.lemmas.Option.{slice_get_past}
use Rattle.lfg_solve.proofs.DerivationLaws.{no_word}
use Rattle.lfg_solve.proofs.derivation.push_word_fact.Goals as goal

pub returns-in-None : goal.returns-in-None
returns-in-None c = no_word _ c.args.own.now c.args.facts.now.items (slice_get_past c.args.tokens.now c.args.own.now.from c.in-None.ensures.lookup.3)
