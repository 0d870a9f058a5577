use Rattle.lfg_model.proofs.Names as laws
use Rattle.lfg_model.proofs.laws.classes_have_one_name.Goals as goal

pub returns : goal.returns
returns c = laws.classes_have_one_name
