use Rattle.lfg_model.proofs.OneTree as laws
use Rattle.lfg_model.proofs.laws.one_derivation.Goals as goal

pub returns : goal.returns
returns c = laws.one_derivation
