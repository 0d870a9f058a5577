use Rattle.lfg_model.specs.Lists.{here}
use Rattle.lfg_solve.proofs.Solving.{given_here}
use Rattle.lfg_solve.proofs.solution.given_pair.Goals as goal

pub returns-in_default-place_of : goal.returns-in_default-place_of
returns-in_default-place_of c = absurd (c.in_default-place_of.ensures.missing c.requires.sorted (c.requires.listed c.in-Equal.a c.in-Equal.b (rw c.in-Equal.is here)).0)

pub returns-in_default-place_of-2 : goal.returns-in_default-place_of-2
returns-in_default-place_of-2 c = absurd (c.in_default-place_of-2.ensures.missing c.requires.sorted (c.requires.listed c.in-Equal.a c.in-Equal.b (rw c.in-Equal.is here)).1)

pub returns : goal.returns
returns c = given_here _ _ _ _ _ _ c.in-Equal.is c.in-Some.ensures.found c.in-Some-place_of.ensures.found
