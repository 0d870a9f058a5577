use Rattle.std.proofs.Common.{◌≡◌, ◌++◌, take}
use Rattle.std.specs.List.{flat_map}
use Rattle.lfg_model.specs.Literals.{checks_of, starts}
use Rattle.lfg_solve.proofs.nodes.with_starts.Given as goal

abbrev pub invariant-loop-literal : goal.invariant-loop-literal
invariant-loop-literal l = l.nodes.items ≡ l.defined ++ flat_map (λ l. flat_map starts (checks_of l)) (take l.literal-index l.literals)
