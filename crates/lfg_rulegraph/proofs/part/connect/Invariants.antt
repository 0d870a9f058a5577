use Rattle.std.proofs.Common.{◌≡◌, ◌++◌, take}
use Rattle.lfg_rulegraph.specs.Tables.{crossing}
use Rattle.lfg_rulegraph.proofs.part.connect.Given as goal

abbrev pub invariant-loop-from : goal.invariant-loop-from
invariant-loop-from l = l.links.items ≡ l.initial.links.items ++ crossing (take l.from-index l.lasts) l.firsts
