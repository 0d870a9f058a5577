use Rattle.lfg_model.specs.Lists.{here}
use Rattle.lfg_solve.proofs.Solving.{value_here, some_of}
use Rattle.lfg_solve.proofs.solution.value_of_class.Goals as goal

pub returns-in_default-class_in : goal.returns-in_default-class_in
returns-in_default-class_in c =
    let e = some_of _ _ _ c.in-Some.is c.in_ok-node.ensures.some in
    absurd (c.in_default-class_in.ensures.missing c.requires.sorted c.requires.covers (c.requires.listed c.in-Some.node.now c.in-Some.constant (rw e here)))

pub returns : goal.returns
returns c = value_here _ _ _ _ _ _ (some_of _ _ _ c.in-Some.is c.in_ok-node.ensures.some) c.in-Some-class_in.ensures.found
