use Rattle.std.proofs.Common.{◌≡◌, ℕ, ◌<◌, ◌+◌, [], get_or, Less}
use Rattle.lfg_terms.specs.Order.{name_cmp}
use Rattle.lfg_chart.proofs.checked.ascend.Given as goal

abbrev pub invariant-loop-i : goal.invariant-loop-i
invariant-loop-i l = (k : ℕ) → k + 1 < l.i → name_cmp (get_or l.names k []) (get_or l.names (k + 1) []) ≡ Less
