use Rattle.std.proofs.Common.{arith}
use Rattle.lfg_solve.proofs.Marking.{none_reaches_itself}
use Rattle.lfg_solve.proofs.cycles.some_reaches_itself.Goals as goal

pub returns : goal.returns
returns c = λ w. none_reaches_itself c.args.arcs.now c.args.members.now _ _ w (omega arith) (c.loop-class.invariant w)
