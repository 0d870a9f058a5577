use Rattle.lfg_chart.specs.Filling.{all_read, nothing_left}
use Rattle.lfg_chart.proofs.FillLaws.{turn_trans}
use Rattle.lfg_chart.proofs.fill.last_at.Goals as goal

pub copy_at-read-requires-clause-of : goal.copy_at-read-requires-clause-of
copy_at-read-requires-clause-of c = all_read c.requires.of

pub start_at-left-requires-clause-of : goal.start_at-left-requires-clause-of
start_at-left-requires-clause-of c = nothing_left c.requires.of

pub returns-clause-turn : goal.returns-clause-turn
returns-clause-turn c = turn_trans c.copy_at-read.ensures.turn c.start_at-left.ensures.turn
