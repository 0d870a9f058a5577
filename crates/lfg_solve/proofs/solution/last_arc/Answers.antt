use Rattle.lfg_solve.proofs.Solving.{arc_here, no_arc, none_of, some_of}
use Rattle.lfg_solve.proofs.solution.last_arc.Goals as goal

pub returns-in_default : goal.returns-in_default
returns-in_default c = no_arc _ _ (none_of _ _ c.in_default.is c.in_ok-before.ensures.start)

pub returns : goal.returns
returns c = arc_here _ _ _ _ _ _ (some_of _ _ _ c.in-Some.is c.in_ok-before.ensures.step) c.in-Some-place_of.ensures.found c.in-Some-place_of-2.ensures.found
