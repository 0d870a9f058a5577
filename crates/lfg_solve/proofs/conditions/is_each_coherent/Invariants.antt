use Rattle.std.proofs.Common.{take}
use Rattle.lfg_solve.specs.Found.{EachOf, IsCoherentAt}
use Rattle.lfg_solve.proofs.conditions.is_each_coherent.Given as goal

abbrev pub invariant-loop-arc : goal.invariant-loop-arc
invariant-loop-arc l = EachOf (IsCoherentAt l.governable l.values l.arcs l.members) (take l.arc-index l.arcs)
