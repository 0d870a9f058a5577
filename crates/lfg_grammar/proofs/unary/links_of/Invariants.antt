use Rattle.std.proofs.Common.{◌≡◌, ◌∷◌, take}
use Rattle.lfg_grammar.specs.OnlyDaughters.{links_from}
use Rattle.lfg_grammar.proofs.unary.links_of.Given as goal

abbrev pub invariant-loop-place : goal.invariant-loop-place
invariant-loop-place l = l.links.items ≡ links_from 0 (l.graph.first ∷ take l.place l.graph.next)
