use Rattle.std.proofs.Common.{◌⊎◌, take}
use Rattle.lfg_model.specs.Lists.{In}
use Rattle.lfg_regpath.specs.Sets.{Holds}
use Rattle.lfg_regpath.proofs.set.add_all.Given as goal

abbrev pub invariant-loop-path : goal.invariant-loop-path
invariant-loop-path l = Holds (λ w. In w l.initial.set.items ⊎ In w (take l.path-index l.paths)) l.set.items
