use Rattle.std.proofs.Common.{◌≡◌, ◌==◌, ◌∙◌, ap, arith, length, vec_len}
use Rattle.lfg_solve.proofs.Walks.{somewhere_by_numbers}
use Rattle.lfg_solve.proofs.solution.Solution.leads_somewhere.Goals as goal

pub returns : goal.returns
returns c = λ ls y.
    let e : vec_len c.in_ok-classes.classes ≡ length c.in_ok-classes.classes.items = omega arith in
    somewhere_by_numbers ls _ _ _ _ y (c.in_ok-classes.ensures ls y) (c.is_empty.ensures ∙ ap (λ n. n == 0) e)
