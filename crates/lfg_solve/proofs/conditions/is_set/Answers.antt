use Rattle.std.proofs.Common.{arith}
use Rattle.lfg_solve.specs.Found.{IsMemberIn}
use Rattle.lfg_solve.proofs.Finding.{NoneOf-none, NoneOf-read, none_found, not_so, some_found, get_or-again}
use Rattle.lfg_solve.proofs.conditions.is_set.Goals as goal

pub loop-member-init : goal.loop-member-init
loop-member-init c = NoneOf-none (IsMemberIn c.args.class)

pub returns-then-is_set_of : goal.returns-then-is_set_of
returns-then-is_set_of c =
    some_found (IsMemberIn c.args.class) c.args.members.now c.loop-member.member-index _ (omega arith)
    (get_or-again c.args.members.now c.loop-member.member-index (record { item = 0; set = 0 }) (omega arith)) (c.is_set_of.ensures.0 c.if-is_set_of.true)

pub loop-member-preserved : goal.loop-member-preserved
loop-member-preserved c =
    NoneOf-read (IsMemberIn c.args.class) c.args.members.now c.loop-member.member-index _ (omega arith)
    (get_or-again c.args.members.now c.loop-member.member-index (record { item = 0; set = 0 }) (omega arith)) c.loop-member.invariant (not_so _ _ c.is_set_of.ensures c.if-is_set_of.false)

pub returns : goal.returns
returns c = none_found (IsMemberIn c.args.class) _ _ (omega arith) c.loop-member.invariant
