use Rattle.lfg_output.proofs.OneOutput as laws
use Rattle.lfg_output.proofs.laws.a_command_has_one_output.Goals as goal

pub returns : goal.returns
returns c = laws.one_output
