use Rattle.lfg_model.proofs.Settling as laws
use Rattle.lfg_model.proofs.laws.growing_rounds_settle.Goals as goal

pub returns : goal.returns
returns c = laws.growing_rounds_settle
