use Rattle.lfg_model.proofs.FillableLaws as laws
use Rattle.lfg_model.proofs.chart_laws.fillable_without_empty_disjunctions.Goals as goal

pub returns : goal.returns
returns c = laws.fillable_without_empty_disjunctions
