use Rattle.std.proofs.lemmas.Result.{IfOk-weaker}
use Rattle.lfg_solve.proofs.Walks.{none_reached, reached_by_numbers}
use Rattle.lfg_solve.proofs.solution.Solution.reached.Goals as goal

pub returns-in_default : goal.returns-in_default
returns-in_default c = λ ls y. rw c.new.ensures.items (none_reached ls _ y _ (c.in_default.ensures.missing ls y))

pub returns : goal.returns
returns c = λ ls y. IfOk-weaker c.reached_from.result _ _ (λ classes h. reached_by_numbers ls _ y _ _ _ c.in-Some.ensures.found h) (rw (c.deref.ensures.value, c.list.ensures) at c.reached_from.ensures)
