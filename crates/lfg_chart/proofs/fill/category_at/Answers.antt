use Rattle.std.proofs.Common.{Some, None, ◌≡◌}
use Rattle.lfg_chart.proofs.FillLaws.{turn_same, item_is}
use Rattle.lfg_chart.proofs.fill.category_at.Goals as goal

pub returns-in-None-clause-turn : goal.returns-in-None-clause-turn
returns-in-None-clause-turn c = turn_same c.args.table.now c.requires.ready

pub returns-in-None-clause-met : goal.returns-in-None-clause-met
returns-in-None-clause-met c = λ e rule is. (let f : c.index-rules-cat.result ≡ Some rule = item_is c.args.rules.now c.args.cat c.index-rules-cat.result (Some rule) c.index-rules-cat.is is in let g : c.index-rules-cat.result ≡ None = c.in-None.is in absurd (cc))
