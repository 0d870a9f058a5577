use Rattle.lfg_chart.specs.Filling.{nothing_read}
use Rattle.lfg_chart.proofs.FillLaws.{turn_trans}
use Rattle.lfg_chart.proofs.fill.rule_at.Goals as goal

pub start_at-start-requires-clause-of : goal.start_at-start-requires-clause-of
start_at-start-requires-clause-of c = nothing_read c.args.rule.now c.requires.of

pub links_at-links-requires-clause-of : goal.links_at-links-requires-clause-of
links_at-links-requires-clause-of c = λ link h. (c.args.rule.now, c.requires.of, rw c.deref.ensures.value at h)

pub lasts_at-lasts-requires-clause-of : goal.lasts_at-lasts-requires-clause-of
lasts_at-lasts-requires-clause-of c = λ item h. (c.args.rule.now, c.requires.of, rw c.deref-2.ensures.value at h)

pub returns-clause-turn : goal.returns-clause-turn
returns-clause-turn c = turn_trans (turn_trans c.start_at-start.ensures.turn c.links_at-links.ensures.turn) c.lasts_at-lasts.ensures.turn
