use Rattle.lfg_model.proofs.OutputLaws.{one_output}
use Rattle.lfg_model.proofs.laws.a_command_has_one_output.Goals as goal

pub returns : goal.returns
returns c = one_output
