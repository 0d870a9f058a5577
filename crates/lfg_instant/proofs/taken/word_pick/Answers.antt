use Rattle.lfg_packed.specs.ChoicePoints.{EntryAt}
use Rattle.lfg_instant.proofs.taken.word_pick.Goals as goal

pub pick-requires-clause-place : goal.pick-requires-clause-place
pick-requires-clause-place c = (EntryAt c.args.word.now.edge, record { is = c.in_ok-key.ensures; has = c.requires.place.has; within = c.requires.place.within })

pub returns-clause-ok : goal.returns-clause-ok
returns-clause-ok c = c.in_ok-set.ensures.ok (EntryAt c.args.word.now.edge) c.in_ok-key.ensures
