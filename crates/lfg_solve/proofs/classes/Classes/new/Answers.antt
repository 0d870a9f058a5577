use Rattle.std.proofs.Common.{arith}
use Rattle.lfg_solve.proofs.Dividing.{own_division}
use Rattle.lfg_solve.proofs.classes.Classes.new.Goals as goal

pub returns-clause-alone : goal.returns-clause-alone
returns-clause-alone c = λ given arcs. own_division c.args.count given arcs c.loop-number.labels.items (omega arith) c.loop-number.invariant.own
