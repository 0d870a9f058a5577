use Rattle.lfg_model.specs.Lists.{here}
use Rattle.lfg_solve.proofs.Solving.{member_here}
use Rattle.lfg_solve.proofs.solution.member_of_class.Goals as goal

pub returns-in_default-class_in : goal.returns-in_default-class_in
returns-in_default-class_in c = absurd (c.in_default-class_in.ensures.missing c.requires.sorted c.requires.covers (c.requires.listed c.in-Member.item c.in-Member.set (rw c.in-Member.is here)).0)

pub returns-in_default-class_in-2 : goal.returns-in_default-class_in-2
returns-in_default-class_in-2 c = absurd (c.in_default-class_in-2.ensures.missing c.requires.sorted c.requires.covers (c.requires.listed c.in-Member.item c.in-Member.set (rw c.in-Member.is here)).1)

pub returns : goal.returns
returns c = member_here _ _ _ _ _ _ _ c.in-Member.is c.in-Some.ensures.found c.in-Some-class_in.ensures.found
