use Rattle.std.proofs.Common.{◌≡◌, arith, length}
use Rattle.lfg_solve.proofs.CycleLaws.{cycle_answered}
use Rattle.lfg_solve.proofs.solution.Solution.has_cycle.Goals as goal

pub returns : goal.returns
returns c =
    let count : c.len.result ≡ length c.args.self.now.nodes.items = omega arith in
    λ ls y. cycle_answered ls _ y _ (rw (count, c.deref.ensures.value, c.deref-2.ensures.value) at c.some_reaches_itself.ensures)
