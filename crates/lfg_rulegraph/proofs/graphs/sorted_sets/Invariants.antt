use Rattle.lfg_rulegraph.specs.Followers.{AreSets}
use Rattle.lfg_rulegraph.proofs.graphs.sorted_sets.Given as goal

abbrev pub invariant-loop-list : goal.invariant-loop-list
invariant-loop-list l = AreSets l.yielded l.sets.items
