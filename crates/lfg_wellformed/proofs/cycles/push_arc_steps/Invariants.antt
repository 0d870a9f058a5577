use Rattle.std.proofs.Common.{◌≡◌, ◌<◌, ℕ, [], ◌++◌, length, get_or, map, take}
use Rattle.lfg_wellformed.specs.Steps.{arc_step, member_step, LeadsOn, StepsOn, IsIn, TellsEach, AreLasting, EntryLeads, IsOn}
use Rattle.lfg_wellformed.proofs.cycles.push_arc_steps.Given as goal

abbrev pub invariant-loop-number : goal.invariant-loop-number
invariant-loop-number l = l.steps.items ≡ l.fn.steps.items ++ map (arc_step l.closure) (take l.number l.arcs)
