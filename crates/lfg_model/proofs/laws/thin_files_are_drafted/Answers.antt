use Rattle.lfg_model.proofs.ThinDraftLaws as laws
use Rattle.lfg_model.proofs.laws.thin_files_are_drafted.Goals as goal

pub returns : goal.returns
returns c = laws.thin_files_are_drafted
