use Rattle.std.proofs.Common.{length, take, ◌-◌}
use Rattle.lfg_grammar.specs.Reach.{Search}
use Rattle.lfg_grammar.proofs.reach.reached.Given as goal

abbrev pub invariant-loop-at : goal.invariant-loop-at
invariant-loop-at l = Search l.next l.starts l.marks.items l.found.items (take l.at l.found.items)

abbrev pub decreases-loop-at : goal.decreases-loop-at
decreases-loop-at l = length l.next - l.at
