use Rattle.std.proofs.Common.{◌≡◌, ◌++◌, ◌-◌, suc}
use Rattle.lfg_model.specs.Thin.{last_of}
use Rattle.xle_run.proofs.thin.grammar.last_flags.Given as goal

abbrev pub invariant-loop-number : goal.invariant-loop-number
invariant-loop-number l = l.last.items ++ last_of (suc (l.size - l._number)) ≡ last_of l.size
