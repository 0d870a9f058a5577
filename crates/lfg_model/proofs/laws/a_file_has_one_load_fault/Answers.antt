use Rattle.lfg_model.proofs.LoadLaws as laws
use Rattle.lfg_model.proofs.laws.a_file_has_one_load_fault.Goals as goal

pub returns : goal.returns
returns c = record { one = laws.one_load_fault; none = laws.loaded_has_no_fault }
