use Rattle.lfg_model.proofs.RowLaws as laws
use Rattle.lfg_model.proofs.chart_laws.rows_mean.Goals as goal

pub returns : goal.returns
returns c = laws.rows_mean
