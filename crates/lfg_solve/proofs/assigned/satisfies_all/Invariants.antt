use Rattle.std.proofs.Common.{take}
use Rattle.lfg_model.specs.Literals.{checks}
use Rattle.lfg_model.specs.Solve.{Holds, solution}
use Rattle.lfg_solve.specs.Found.{EachOf}
use Rattle.lfg_solve.specs.Solves.{Solves}
use Rattle.lfg_solve.proofs.assigned.satisfies_all.Given as goal

abbrev pub invariant-loop-literal : goal.invariant-loop-literal
invariant-loop-literal l = Solves l.literals l.solution → EachOf (Holds (solution l.literals)) (checks (take l.literal-index l.literals))
