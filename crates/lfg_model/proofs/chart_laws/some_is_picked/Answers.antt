use Rattle.lfg_model.proofs.SomePick as laws
use Rattle.lfg_model.proofs.chart_laws.some_is_picked.Goals as goal

pub returns : goal.returns
returns c = laws.some_is_picked
