use Rattle.lfg_model.proofs.Standing as laws
use Rattle.lfg_model.proofs.chart_laws.kept_is_standing.Goals as goal

pub returns : goal.returns
returns c = laws.kept_is_standing
