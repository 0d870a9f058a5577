use Rattle.std.proofs.Common.{take}
use Rattle.lfg_model.specs.Lists.{In}
use Rattle.lfg_solve.specs.Numbers.{Corresponds, IsLabelled}
use Rattle.lfg_solve.proofs.solution.arcs_of_classes.Given as goal

abbrev pub invariant-loop-arc : goal.invariant-loop-arc
invariant-loop-arc l = Corresponds (IsLabelled l.classes) (λ arc. In arc (take l.arc-index l.arcs)) l.found.items
