use Rattle.std.proofs.Common.{◌≡◌, ◌+◌, length, map, take}
use Rattle.lfg_context.specs.Tables.{cubes_at}
use Rattle.lfg_context.specs.Forms.{AllBelow}
use Rattle.lfg_context.proofs.diagram.Diagram.sets.Given as goal

abbrev pub invariant-loop-number : goal.invariant-loop-number
invariant-loop-number l = record {
  cubes : map (λ x. x.1) l.sets.items ≡ map (cubes_at l.self.nodes.entries) (take l.number-index l.numbers);
  below : AllBelow (length l.self.nodes.entries + 2) l.sets.items;
}
