use Rattle.std.proofs.Common.{take}
use Rattle.lfg_instant.specs.Collects.{Collects}
use Rattle.lfg_instant.specs.Facts.{IsUnderOf}
use Rattle.lfg_instant.proofs.facts.add_under_facts.Given as goal

abbrev pub invariant-loop-step : goal.invariant-loop-step
invariant-loop-step l = Collects l.fn.facts.items l.facts.items (IsUnderOf l.grammar (take l.step-index l.steps))
