use Rattle.std.proofs.Common.{take}
use Rattle.lfg_model.specs.Lists.{In}
use Rattle.lfg_model.specs.Literals.{values}
use Rattle.lfg_solve.specs.Numbers.{Corresponds, IsValueOf}
use Rattle.lfg_solve.proofs.solution.values_of_classes.Given as goal

abbrev pub invariant-loop-literal : goal.invariant-loop-literal
invariant-loop-literal l = Corresponds (IsValueOf l.nodes l.classes) (λ p. In p (values (take l.literal-index l.literals))) l.values.items
