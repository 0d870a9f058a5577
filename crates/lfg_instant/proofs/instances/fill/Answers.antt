use Rattle.std.proofs.Common.{List, subst}
use Rattle.lfg_model.specs.Lists.{In}
use Rattle.lfg_model.proofs.ListLaws.{In-map}
use Rattle.lfg_instant.specs.declared.junctions.Junction.{Junction}
use Rattle.lfg_instant.specs.Junctions.{placed}
use Rattle.lfg_instant.proofs.instances.fill.Goals as goal

pub push_choices-requires-clause-two : goal.push_choices-requires-clause-two
push_choices-requires-clause-two c = λ j i.
    (let P : List Junction → Type 0 = λ js. In j js in
    ((c.requires.junctions.choices.exact (placed j)).0 (In-map placed (subst P c.deref.ensures.value i))).1)
