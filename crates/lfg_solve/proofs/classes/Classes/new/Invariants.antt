use Rattle.std.proofs.Common.{◌≡◌, length}
use Rattle.lfg_solve.proofs.Dividing.{AreOwn}
use Rattle.lfg_solve.proofs.classes.Classes.new.Given as goal

abbrev pub invariant-loop-number : goal.invariant-loop-number
invariant-loop-number l = record { length : length l.labels.items ≡ l.number; own : AreOwn l.labels.items }
