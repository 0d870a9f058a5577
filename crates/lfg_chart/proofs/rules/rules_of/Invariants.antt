use Rattle.std.proofs.Common.{◌≤◌, ◌+◌, ◌*◌, drop, length}
use Rattle.lfg_chart.specs.Numbers.{AreRulesOf, items_in}
use Rattle.lfg_chart.proofs.rules.rules_of.Given as goal

abbrev pub invariant-loop-left : goal.invariant-loop-left
invariant-loop-left g l = record {
  within : l.left ≤ length l.rules;
  found : AreRulesOf l.cats (drop l.left l.rules) l.found.items;
  steps : l.steps ≤ l.fn.steps + (items_in (drop l.left l.rules) + 1) * items_in (drop l.left l.rules);
}

abbrev pub decreases-loop-left : goal.decreases-loop-left
decreases-loop-left g l = l.left
