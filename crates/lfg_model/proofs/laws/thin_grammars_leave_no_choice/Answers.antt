use Rattle.lfg_model.proofs.ThinTreeLaws as laws
use Rattle.lfg_model.proofs.laws.thin_grammars_leave_no_choice.Goals as goal

pub returns : goal.returns
returns c = laws.no_choice
