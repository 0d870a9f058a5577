use Rattle.lfg_solve.proofs.Numbered.{complete_by_numbers}
use Rattle.lfg_solve.proofs.solution.Solution.is_complete.Goals as goal

pub returns : goal.returns
returns c = λ ls y. complete_by_numbers ls _ y _ (rw (c.deref.ensures.value, c.deref-2.ensures.value, c.deref-3.ensures.value) at c.is_each_complete.ensures)
