use Rattle.std.proofs.Common.{◌≡◌, take}
use Rattle.std.specs.List.{flat_map}
use Rattle.lfg_model.specs.Literals.{named, with_prefixes}
use Rattle.lfg_solve.proofs.nodes.defined_nodes.Given as goal

abbrev pub invariant-loop-literal : goal.invariant-loop-literal
invariant-loop-literal l = l.nodes.items ≡ flat_map (λ l. flat_map with_prefixes (named l)) (take l.literal-index l.literals)
