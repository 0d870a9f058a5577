use Rattle.lfg_model.proofs.RoundLaws as laws
use Rattle.lfg_model.proofs.laws.rounds_give_equal.Goals as goal

pub returns : goal.returns
returns c = laws.rounds_give_equal
