use Rattle.lfg_model.proofs.ReadingLaws as laws
use Rattle.lfg_model.proofs.laws.sets_of_facts_are_one.Goals as goal

pub returns : goal.returns
returns c = laws.sets_of_facts_are_one
