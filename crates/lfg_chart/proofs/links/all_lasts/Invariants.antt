use Rattle.std.proofs.Common.{◌≤◌, ℕ}
use Rattle.std.specs.Prelude.{◌↔◌}
use Rattle.lfg_model.specs.Derive.{CanEnd}
use Rattle.lfg_model.specs.Lists.{In}
use Rattle.lfg_chart.proofs.links.all_lasts.Given as goal

abbrev pub invariant-loop-number : goal.invariant-loop-number
invariant-loop-number l = (item : ℕ) → In item l.found.items ↔ ((item ≤ l.number) × CanEnd l.rule.graph item)
