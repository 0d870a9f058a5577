use Rattle.lfg_model.proofs.ExampleLaws as laws
use Rattle.lfg_model.proofs.laws.negated_where_plain_fails.Goals as goal

pub returns : goal.returns
returns c = laws.negated_where_plain_fails
