use Rattle.lfg_solve.proofs.Numbered.{coherent_by_numbers}
use Rattle.lfg_solve.proofs.solution.Solution.is_coherent.Goals as goal

pub returns : goal.returns
returns c = λ ls y. coherent_by_numbers ls _ y c.args.governable.now _ (rw (c.deref.ensures.value, c.deref-2.ensures.value, c.deref-3.ensures.value) at c.is_each_coherent.ensures)
