use Rattle.std.proofs.Common.{take}
use Rattle.lfg_model.specs.Lists.{In}
use Rattle.lfg_model.specs.Literals.{members}
use Rattle.lfg_solve.specs.Numbers.{Corresponds, IsMemberOf}
use Rattle.lfg_solve.proofs.solution.members_of_classes.Given as goal

abbrev pub invariant-loop-literal : goal.invariant-loop-literal
invariant-loop-literal l = Corresponds (IsMemberOf l.nodes l.classes) (λ p. In p (members (take l.literal-index l.literals))) l.members.items
