use Rattle.std.proofs.Common.{◌≡◌, true, rules}
use Rattle.lfg_solve.proofs.Marking.{marks_under}
use Rattle.lfg_solve.proofs.cycles.step.Goals as goal

pub returns-clause-under : goal.returns-clause-under
returns-clause-under c =
    let t : c.is_reached.result ≡ true = search rules in
    λ arcs members d u. marks_under arcs members _ _ _ _ _ c.mark.ensures.marks (c.is_reached.ensures.0 t) d u
