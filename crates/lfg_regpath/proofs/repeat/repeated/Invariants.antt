use Rattle.lfg_regpath.proofs.StringLaws.{RepeatState}
use Rattle.lfg_regpath.proofs.repeat.repeated.Given as goal

abbrev pub invariant-loop-round : goal.invariant-loop-round
invariant-loop-round l = RepeatState l.paths l.limit l._round l.set.items l.last.items
