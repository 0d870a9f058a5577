use Rattle.lfg_model.proofs.ReadingLaws as laws
use Rattle.lfg_model.proofs.laws.readings_are_one.Goals as goal

pub returns : goal.returns
returns c = laws.readings_are_one
