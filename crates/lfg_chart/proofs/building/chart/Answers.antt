use Rattle.lfg_chart.proofs.LoadedLaws.{fillable, numbered}
use Rattle.lfg_chart.proofs.building.chart.Goals as goal

pub chart_by-requires-clause-numbered : goal.chart_by-requires-clause-numbered
chart_by-requires-clause-numbered g c = numbered c.args.grammar.now c.requires.loaded

pub chart_by-requires-clause-fillable : goal.chart_by-requires-clause-fillable
chart_by-requires-clause-fillable g c = fillable c.args.grammar.now c.requires.loaded
