use Rattle.std.proofs.Common.{arith}
use Rattle.lfg_solve.specs.Found.{SomeOf}
use Rattle.lfg_solve.specs.Walking.{IsAtomOf}
use Rattle.lfg_solve.proofs.Finding.{NoneOf-none, NoneOf-read, none_found, not_so, some_found, get_or-again}
use Rattle.lfg_solve.proofs.checks.any_has_atom.Goals as goal

pub loop-class-init : goal.loop-class-init
loop-class-init c = NoneOf-none (λ class. SomeOf (IsAtomOf class c.args.atom.now) c.args.values.now)

pub returns-then-has_atom : goal.returns-then-has_atom
returns-then-has_atom c = some_found (λ class. SomeOf (IsAtomOf class c.args.atom.now) c.args.values.now) c.args.classes.now c.loop-class.class-index _ (omega arith) (get_or-again c.args.classes.now c.loop-class.class-index 0 (omega arith)) (c.has_atom.ensures.0 c.if-has_atom.true)

pub loop-class-preserved : goal.loop-class-preserved
loop-class-preserved c = NoneOf-read (λ class. SomeOf (IsAtomOf class c.args.atom.now) c.args.values.now) c.args.classes.now c.loop-class.class-index _ (omega arith) (get_or-again c.args.classes.now c.loop-class.class-index 0 (omega arith)) c.loop-class.invariant (not_so _ _ c.has_atom.ensures c.if-has_atom.false)

pub returns : goal.returns
returns c = none_found (λ class. SomeOf (IsAtomOf class c.args.atom.now) c.args.values.now) _ _ (omega arith) c.loop-class.invariant
