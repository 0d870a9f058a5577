use Rattle.std.proofs.Common.{take}
use Rattle.lfg_solve.proofs.Finding.{NoneOf}
use Rattle.lfg_solve.specs.Found.{IsMemberIn}
use Rattle.lfg_solve.proofs.conditions.is_set.Given as goal

abbrev pub invariant-loop-member : goal.invariant-loop-member
invariant-loop-member l = NoneOf (IsMemberIn l.class) (take l.member-index l.members)
