use Rattle.std.proofs.Common.{◌≡◌, ◌++◌, ◌-◌, suc}
use Rattle.lfg_model.specs.Thin.{next_from}
use Rattle.xle_run.proofs.thin.grammar.next_lists.Given as goal

abbrev pub invariant-loop-number : goal.invariant-loop-number
invariant-loop-number l = l.next.items ++ next_from l.number (suc (l.size - l.number)) ≡ next_from 1 l.size
