use Rattle.lfg_model.specs.Solve.{solution}
use Rattle.lfg_solve.proofs.Walks.{same_holds, exists_holds}
use Rattle.lfg_solve.proofs.solution.Solution.satisfies.Goals as goal

pub returns-in_ok-leads-in-Exists : goal.returns-in_ok-leads-in-Exists
returns-in_ok-leads-in-Exists c = λ ls y. rw c.in-Exists.is (exists_holds (solution ls) _ _ _ _ (c.in_ok-leads-in-Exists.ensures ls y) c.unless.ensures)

pub returns-in_ok-agrees-in-Same : goal.returns-in_ok-agrees-in-Same
returns-in_ok-agrees-in-Same c = λ ls y. rw c.in-Same.is (same_holds (solution ls) _ _ _ _ _ (c.in_ok-agrees-in-Same.ensures ls y) c.unless-in-Same.ensures)
