use Rattle.std.proofs.Common.{◌≡◌, ◌++◌}
use Rattle.lfg_grammar.proofs.HalfLaws.{AreDone}
use Rattle.lfg_grammar.proofs.rules.with_graphs.Given as goal

abbrev pub invariant-loop-half : goal.invariant-loop-half
invariant-loop-half l = record { done : AreDone l.yielded l.rules.items; rest : l.yielded ++ l.half-iterator.rest.items ≡ l.fn.halves.items }
