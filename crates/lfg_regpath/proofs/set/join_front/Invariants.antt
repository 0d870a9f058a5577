use Rattle.std.proofs.Common.{◌⊎◌, ◌∷◌, [], take}
use Rattle.lfg_model.specs.Lists.{In}
use Rattle.lfg_regpath.specs.Sets.{Holds, IsJoin}
use Rattle.lfg_regpath.proofs.set.join_front.Given as goal

abbrev pub invariant-loop-back : goal.invariant-loop-back
invariant-loop-back l = Holds (λ w. In w l.initial.set.items ⊎ IsJoin (l.front ∷ []) (take l.back-index l.backs) l.limit w) l.set.items
