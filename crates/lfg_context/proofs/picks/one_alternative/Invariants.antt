use Rattle.std.proofs.Common.{◌≡◌, ◌==◌, ℕ, ◌<◌, length, get_or, cond}
use Rattle.lfg_context.proofs.picks.one_alternative.Given as goal

abbrev pub invariant-loop-k : goal.invariant-loop-k
invariant-loop-k l = record {
  len : length l.children.items ≡ l.k;
  here : (j : ℕ) → j < l.k → get_or l.children.items j 0 ≡ cond (j == l.alternative) 1 0;
}
