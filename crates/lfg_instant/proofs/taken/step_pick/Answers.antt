use Rattle.lfg_packed.specs.ChoicePoints.{NextAt}
use Rattle.lfg_instant.proofs.taken.step_pick.Goals as goal

pub pick-requires-clause-place : goal.pick-requires-clause-place
pick-requires-clause-place c = (NextAt c.args.step.now.point, record { is = c.in_ok-key.ensures; has = c.requires.place.has; within = c.requires.place.within })

pub returns-clause-ok : goal.returns-clause-ok
returns-clause-ok c = c.in_ok-set.ensures.ok (NextAt c.args.step.now.point) c.in_ok-key.ensures
