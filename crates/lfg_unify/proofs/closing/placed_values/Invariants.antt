use Rattle.std.proofs.Common.{◌≡◌, map, take}
use Rattle.lfg_unify.specs.Collected.{placed_in}
use Rattle.lfg_unify.proofs.closing.placed_values.Given as goal

abbrev pub invariant-loop-value : goal.invariant-loop-value
invariant-loop-value l = l.placed.items ≡ map (placed_in l.nodes) (take l.value-index l.values)
