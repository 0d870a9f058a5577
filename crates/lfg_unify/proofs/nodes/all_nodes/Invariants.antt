use Rattle.std.proofs.Common.{◌≡◌, true, take}
use Rattle.std.specs.List.{flat_map}
use Rattle.lfg_unify.specs.Marks.{found_in}
use Rattle.lfg_unify.proofs.nodes.all_nodes.Given as goal

abbrev pub invariant-loop-literal : goal.invariant-loop-literal
invariant-loop-literal l = l.nodes.items ≡ flat_map (λ l. found_in true l.0) (take l.literal-index l.literals)
