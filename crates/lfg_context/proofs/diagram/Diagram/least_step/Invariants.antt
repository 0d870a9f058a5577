use Rattle.std.proofs.Common.{◌≡◌, ℕ, ◌<◌, false}
use Rattle.lfg_context.specs.Cubes.{in_cubes}
use Rattle.lfg_context.specs.Tables.{cubes_at}
use Rattle.lfg_context.proofs.diagram.Diagram.least_step.Given as goal

abbrev pub invariant-loop-alternative : goal.invariant-loop-alternative
invariant-loop-alternative l = (a : ℕ → ℕ) → a l.choice < l.alternative → in_cubes (cubes_at l.self.nodes.entries l.number) a ≡ false
