use Rattle.lfg_wellformed.proofs.Classes.{equal_at_result}
use Rattle.lfg_wellformed.proofs.arcs.is_member.Goals as goal

pub and-requires-clause-b_made : goal.and-requires-clause-b_made
and-requires-clause-b_made c = equal_at_result c.args.place c.args.set c.requires.closure c.equal_at.ensures
