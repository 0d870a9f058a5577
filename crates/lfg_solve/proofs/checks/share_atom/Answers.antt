use Rattle.std.proofs.Common.{arith}
use Rattle.lfg_solve.specs.Walking.{IsSharedAtom}
use Rattle.lfg_solve.proofs.Finding.{NoneOf-none, NoneOf-read, none_found, not_so, some_found}
use Rattle.lfg_solve.proofs.checks.share_atom.Goals as goal

pub loop-value-init : goal.loop-value-init
loop-value-init c = NoneOf-none (IsSharedAtom c.args.values.now c.args.one c.args.other)

pub returns-then-is_shared_atom : goal.returns-then-is_shared_atom
returns-then-is_shared_atom c = some_found (IsSharedAtom c.args.values.now c.args.one c.args.other) _ _ _ (omega arith) c.value-item.is (c.is_shared_atom.ensures.0 c.if-is_shared_atom.true)

pub loop-value-preserved : goal.loop-value-preserved
loop-value-preserved c = NoneOf-read (IsSharedAtom c.args.values.now c.args.one c.args.other) _ _ _ (omega arith) c.value-item.is c.loop-value.invariant (not_so _ _ c.is_shared_atom.ensures c.if-is_shared_atom.false)

pub returns : goal.returns
returns c = none_found (IsSharedAtom c.args.values.now c.args.one c.args.other) _ _ (omega arith) c.loop-value.invariant
