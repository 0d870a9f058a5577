use Rattle.lfg_wellformed.proofs.Classes.{equal_at_result}
use Rattle.lfg_wellformed.proofs.coherence.named_by.Goals as goal

pub and-requires-clause-b_made : goal.and-requires-clause-b_made
and-requires-clause-b_made c = equal_at_result c.args.place c.args.at c.requires.closure c.equal_at.ensures
