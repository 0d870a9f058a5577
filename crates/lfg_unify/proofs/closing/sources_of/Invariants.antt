use Rattle.std.proofs.Common.{◌≡◌, map, take}
use Rattle.lfg_unify.specs.Collected.{source_in}
use Rattle.lfg_unify.proofs.closing.sources_of.Given as goal

abbrev pub invariant-loop-arc : goal.invariant-loop-arc
invariant-loop-arc l = l.sources.items ≡ map (source_in l.nodes) (take l.arc-index l.arcs)
