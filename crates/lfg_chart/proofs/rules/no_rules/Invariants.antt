use Rattle.std.proofs.Common.{◌≡◌, ℕ, ◌<◌, Some, None, length}
use Rattle.std.specs.Prelude.{slice_get}
use Rattle.lfg_chart.proofs.rules.no_rules.Given as goal

abbrev pub invariant-loop-cat : goal.invariant-loop-cat
invariant-loop-cat l = record { length : length l.found.items ≡ l._cat; none : (k : ℕ) → k < l._cat → slice_get l.found.items k ≡ Some None }
