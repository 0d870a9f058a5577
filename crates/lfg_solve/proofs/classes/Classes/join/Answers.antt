use Rattle.std.proofs.Common.{Some, ap, sym, ◌∙◌, arith}
use Rattle.lfg_solve.proofs.Dividing.{joins_high, joins_low, joins_same}
use Rattle.lfg_solve.proofs.classes.Classes.join.Goals as goal

pub returns-then-a-b-clause-joins : goal.returns-then-a-b-clause-joins
returns-then-a-b-clause-joins c = joins_same _ _ _ _ c.of-a.ensures (c.of-b.ensures ∙ ap (λ x. Some x) (sym c.if-a-b.true))

pub returns-then-b-a-clause-joins : goal.returns-then-b-a-clause-joins
returns-then-b-a-clause-joins c = rw c.relabel.ensures (joins_high _ _ _ _ _ c.of-a.ensures c.of-b.ensures (omega arith))

pub returns-else-b-a-clause-joins : goal.returns-else-b-a-clause-joins
returns-else-b-a-clause-joins c = rw c.relabel-else-b-a.ensures (joins_low _ _ _ _ _ c.of-a.ensures c.of-b.ensures (omega arith))
