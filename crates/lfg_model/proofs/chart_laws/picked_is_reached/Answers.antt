use Rattle.lfg_model.proofs.ReachedLaws as laws
use Rattle.lfg_model.proofs.chart_laws.picked_is_reached.Goals as goal

pub returns : goal.returns
returns c = laws.picked_is_reached
