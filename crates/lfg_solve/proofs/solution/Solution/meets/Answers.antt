use Rattle.std.proofs.Common.{refl}
use Rattle.std.proofs.lemmas.Result.{IfOk-weaker}
use Rattle.lfg_model.specs.Solve.{Holds, solution}
use Rattle.lfg_solve.proofs.Walks.{one_check, no_check}
use Rattle.lfg_solve.proofs.solution.Solution.meets.Goals as goal

pub returns-in-Check : goal.returns-in-Check
returns-in-Check c = λ ls y. rw c.in-Check.is (IfOk-weaker c.satisfies.result _ _ (λ r t. one_check (Holds (solution ls)) r c.in-Check.check t) (c.satisfies.ensures ls y))

pub returns-in_default : goal.returns-in_default
returns-in_default c = λ ls y. ((λ t. no_check (Holds (solution ls)) c.args.literal.now c.in_default.not-Check), (λ h. refl))
