use Rattle.lfg_model.proofs.LiteralLaws as laws
use Rattle.lfg_model.proofs.laws.rounds_give_solution.Goals as goal

pub returns : goal.returns
returns c = laws.rounds_give_solution
