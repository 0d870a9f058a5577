use Rattle.lfg_context.proofs.Depending.{taken_alike}
use Rattle.lfg_context.proofs.laws.membership_is_by_alternatives.Goals as goal

pub returns : goal.returns
returns c = λ a b alike. taken_alike a b c.requires alike
