use Rattle.lfg_solve.proofs.Walks.{agrees_by_numbers}
use Rattle.lfg_solve.proofs.solution.Solution.agree.Goals as goal

pub returns : goal.returns
returns c = λ ls y.
    agrees_by_numbers ls _ y _ _ _ _ _ (c.in_ok-classes.ensures ls y) (c.in_ok-others.ensures ls y)
    (rw (c.deref.ensures.value, c.deref-2.ensures.value, c.deref-3.ensures.value) at c.any_matches.ensures)
