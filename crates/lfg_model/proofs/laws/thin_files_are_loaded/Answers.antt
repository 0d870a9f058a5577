use Rattle.lfg_model.proofs.ThinLoadLaws as laws
use Rattle.lfg_model.proofs.laws.thin_files_are_loaded.Goals as goal

pub returns : goal.returns
returns c = laws.thin_files_are_loaded
