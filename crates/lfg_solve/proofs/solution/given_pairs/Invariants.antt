use Rattle.std.proofs.Common.{take}
use Rattle.lfg_model.specs.Lists.{In}
use Rattle.lfg_model.specs.Literals.{given}
use Rattle.lfg_solve.specs.Numbers.{Corresponds, ArePlaces}
use Rattle.lfg_solve.proofs.solution.given_pairs.Given as goal

abbrev pub invariant-loop-literal : goal.invariant-loop-literal
invariant-loop-literal l = Corresponds (ArePlaces l.nodes) (λ p. In p (given (take l.literal-index l.literals))) l.given.items
