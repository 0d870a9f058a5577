use Rattle.lfg_solve.proofs.Walks.{atom_by_numbers}
use Rattle.lfg_solve.proofs.solution.Solution.reaches_atom.Goals as goal

pub returns : goal.returns
returns c = λ ls y. atom_by_numbers ls _ y _ _ _ _ (c.in_ok-classes.ensures ls y) (rw (c.deref.ensures.value, c.deref-2.ensures.value) at c.any_has_atom.ensures)
