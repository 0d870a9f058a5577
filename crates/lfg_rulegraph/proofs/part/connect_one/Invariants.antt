use Rattle.std.proofs.Common.{◌≡◌, ◌++◌, map, take}
use Rattle.lfg_rulegraph.specs.Tables.{link}
use Rattle.lfg_rulegraph.proofs.part.connect_one.Given as goal

abbrev pub invariant-loop-to : goal.invariant-loop-to
invariant-loop-to l = l.links.items ≡ l.initial.links.items ++ map (link l.from) (take l.to-index l.firsts)
