use Rattle.lfg_instant.proofs.CountLaws.{one_choices, one_literal_count, one_instance_count}
use Rattle.lfg_instant.proofs.laws.a_sentence_has_one_size.Goals as goal

pub returns-clause-choices : goal.returns-clause-choices
returns-clause-choices c = one_choices

pub returns-clause-literals : goal.returns-clause-literals
returns-clause-literals c = one_literal_count

pub returns-clause-size : goal.returns-clause-size
returns-clause-size c = one_instance_count
