use Rattle.std.proofs.Common.{take}
use Rattle.lfg_solve.specs.Found.{EachOf, IsFilledBy, SomeOf}
use Rattle.lfg_solve.proofs.conditions.has_each_filled.Given as goal

abbrev pub invariant-loop-function : goal.invariant-loop-function
invariant-loop-function l = EachOf (λ g. SomeOf (IsFilledBy l.arcs l.members l.class g) l.arcs) (take l.function-index l.functions)
