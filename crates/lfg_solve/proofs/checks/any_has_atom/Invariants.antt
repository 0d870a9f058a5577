use Rattle.std.proofs.Common.{take}
use Rattle.lfg_solve.proofs.Finding.{NoneOf}
use Rattle.lfg_solve.specs.Found.{SomeOf}
use Rattle.lfg_solve.specs.Walking.{IsAtomOf}
use Rattle.lfg_solve.proofs.checks.any_has_atom.Given as goal

abbrev pub invariant-loop-class : goal.invariant-loop-class
invariant-loop-class l = NoneOf (λ class. SomeOf (IsAtomOf class l.atom) l.values) (take l.class-index l.classes)
