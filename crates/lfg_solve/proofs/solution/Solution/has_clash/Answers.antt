use Rattle.lfg_solve.proofs.Numbered.{clash_by_numbers}
use Rattle.lfg_solve.proofs.solution.Solution.has_clash.Goals as goal

pub returns : goal.returns
returns c = λ ls y. clash_by_numbers ls _ y _ (rw (c.deref.ensures.value, c.deref-2.ensures.value, c.deref-3.ensures.value) at c.has_clashing.ensures)
