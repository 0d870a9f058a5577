use Rattle.lfg_model.proofs.ExampleLaws as laws
use Rattle.lfg_model.proofs.laws.targets_of_equal_nodes_are_equal.Goals as goal

pub returns : goal.returns
returns c = laws.targets_of_equal_nodes_are_equal
