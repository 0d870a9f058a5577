use Rattle.std.proofs.Common.{◌≡◌, ◌++◌, map, take}
use Rattle.lfg_grammar.specs.Reach.{link}
use Rattle.lfg_grammar.proofs.unary.push_links.Given as goal

abbrev pub invariant-loop-item : goal.invariant-loop-item
invariant-loop-item l = l.links.items ≡ l.initial.links.items ++ map (link l.from) (take l.item-index l.items)
