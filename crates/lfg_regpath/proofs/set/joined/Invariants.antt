use Rattle.std.proofs.Common.{take}
use Rattle.lfg_regpath.specs.Sets.{Holds, IsJoin}
use Rattle.lfg_regpath.proofs.set.joined.Given as goal

abbrev pub invariant-loop-front : goal.invariant-loop-front
invariant-loop-front l = Holds (IsJoin (take l.front-index l.fronts) l.backs l.limit) l.set.items
