use Rattle.std.proofs.Common.{◌≡◌, ◌<◌, ◌+◌, length, get_or}
use Rattle.lfg_context.specs.Cubes.{in_cubes}
use Rattle.lfg_context.specs.Tables.{cubes_at}
use Rattle.lfg_context.proofs.diagram.Diagram.holds.Given as goal

abbrev pub invariant-loop-n : goal.invariant-loop-n
invariant-loop-n l = record {
  within : l.n < length l.self.nodes.entries + 2;
  same : in_cubes (cubes_at l.self.nodes.entries l.n) (λ c. get_or l.assignment c 0) ≡ in_cubes (cubes_at l.self.nodes.entries l.number) (λ c. get_or l.assignment c 0);
}

abbrev pub decreases-loop-n : goal.decreases-loop-n
decreases-loop-n l = l.n
