use Rattle.std.proofs.Common.{ℕ, ◌<◌}
use Rattle.lfg_solve.specs.Descents.{AreWithin, IsUnder}
use Rattle.lfg_solve.proofs.cycles.some_reaches_itself.Given as goal

abbrev pub invariant-loop-class : goal.invariant-loop-class
invariant-loop-class l = AreWithin l.count l.arcs l.members → (k : ℕ) → k < l.class → ¬ IsUnder l.arcs l.members k k
