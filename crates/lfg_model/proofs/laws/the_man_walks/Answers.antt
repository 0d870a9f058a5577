use Rattle.lfg_model.proofs.ManWalksLaws as laws
use Rattle.lfg_model.proofs.laws.the_man_walks.Goals as goal

pub returns : goal.returns
returns c = laws.the_man_walks
