use Rattle.lfg_model.proofs.ChartLaws as laws
use Rattle.lfg_model.proofs.chart_laws.one_chart.Goals as goal

pub returns : goal.returns
returns c = record { one = laws.one_chart; all = laws.chart_has_all_nexts }
