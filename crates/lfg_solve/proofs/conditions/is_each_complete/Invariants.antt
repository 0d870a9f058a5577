use Rattle.std.proofs.Common.{take}
use Rattle.lfg_solve.specs.Found.{EachOf, IsCompleteAt}
use Rattle.lfg_solve.proofs.conditions.is_each_complete.Given as goal

abbrev pub invariant-loop-arc : goal.invariant-loop-arc
invariant-loop-arc l = EachOf (IsCompleteAt l.values l.arcs l.members) (take l.arc-index l.arcs)
