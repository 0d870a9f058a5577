use Rattle.std.proofs.Common.{arith}
use Rattle.lfg_solve.specs.Walking.{IsAtomOf}
use Rattle.lfg_solve.proofs.Finding.{NoneOf-none, NoneOf-read, none_found, not_so, some_found}
use Rattle.lfg_solve.proofs.checks.has_atom.Goals as goal

pub loop-value-init : goal.loop-value-init
loop-value-init c = NoneOf-none (IsAtomOf c.args.class c.args.atom.now)

pub returns-then-is_atom_of : goal.returns-then-is_atom_of
returns-then-is_atom_of c = some_found (IsAtomOf c.args.class c.args.atom.now) _ _ _ (omega arith) c.value-item.is (c.is_atom_of.ensures.0 c.if-is_atom_of.true)

pub loop-value-preserved : goal.loop-value-preserved
loop-value-preserved c = NoneOf-read (IsAtomOf c.args.class c.args.atom.now) _ _ _ (omega arith) c.value-item.is c.loop-value.invariant (not_so _ _ c.is_atom_of.ensures c.if-is_atom_of.false)

pub returns : goal.returns
returns c = none_found (IsAtomOf c.args.class c.args.atom.now) _ _ (omega arith) c.loop-value.invariant
