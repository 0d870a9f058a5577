use Rattle.lfg_model.proofs.OnePick as laws
use Rattle.lfg_model.proofs.chart_laws.one_is_picked.Goals as goal

pub returns : goal.returns
returns c = laws.one_is_picked
