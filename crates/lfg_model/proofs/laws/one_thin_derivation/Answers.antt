use Rattle.lfg_model.proofs.ThinTreeLaws as laws
use Rattle.lfg_model.proofs.laws.one_thin_derivation.Goals as goal

pub returns : goal.returns
returns c = laws.one_thin_derivation
