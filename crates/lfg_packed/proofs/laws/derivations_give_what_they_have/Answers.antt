use Rattle.lfg_packed.proofs.SpotLaws.{literals_are_of_spots, tree_facts_are_of_spots}
use Rattle.lfg_packed.proofs.laws.derivations_give_what_they_have.Goals as goal

pub returns-clause-literals : goal.returns-clause-literals
returns-clause-literals c = literals_are_of_spots

pub returns-clause-facts : goal.returns-clause-facts
returns-clause-facts c = tree_facts_are_of_spots
