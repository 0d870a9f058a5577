use Rattle.std.proofs.Common.{take}
use Rattle.lfg_solve.specs.Found.{EachOf, IsMet}
use Rattle.lfg_solve.proofs.conditions.is_each_met.Given as goal

abbrev pub invariant-loop-value : goal.invariant-loop-value
invariant-loop-value l = EachOf (IsMet l.arcs l.members l.class l.target) (take l.value-index l.values)
