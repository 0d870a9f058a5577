use Rattle.std.proofs.Common.{length, map, take, ◌-◌}
use Rattle.lfg_templates.specs.Graphs.{Search}
use Rattle.lfg_templates.proofs.search.leads_back.Given as goal

abbrev pub invariant-loop-next : goal.invariant-loop-next
invariant-loop-next l = Search (map (λ r. r.items) l.graph) l.start l.marks.items l.reached.items (take l.next l.reached.items)

abbrev pub decreases-loop-next : goal.decreases-loop-next
decreases-loop-next l = length l.graph - l.next
