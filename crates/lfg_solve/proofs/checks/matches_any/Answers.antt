use Rattle.std.proofs.Common.{arith}
use Rattle.lfg_solve.specs.Walking.{AreMatching}
use Rattle.lfg_solve.proofs.Finding.{NoneOf-none, NoneOf-read, none_found, not_so, some_found, get_or-again}
use Rattle.lfg_solve.proofs.checks.matches_any.Goals as goal

pub loop-other-init : goal.loop-other-init
loop-other-init c = NoneOf-none (AreMatching c.args.values.now c.args.class)

pub returns-then-are_matching : goal.returns-then-are_matching
returns-then-are_matching c = some_found (AreMatching c.args.values.now c.args.class) c.args.others.now c.loop-other.other-index _ (omega arith) (get_or-again c.args.others.now c.loop-other.other-index 0 (omega arith)) (c.are_matching.ensures.0 c.if-are_matching.true)

pub loop-other-preserved : goal.loop-other-preserved
loop-other-preserved c = NoneOf-read (AreMatching c.args.values.now c.args.class) c.args.others.now c.loop-other.other-index _ (omega arith) (get_or-again c.args.others.now c.loop-other.other-index 0 (omega arith)) c.loop-other.invariant (not_so _ _ c.are_matching.ensures c.if-are_matching.false)

pub returns : goal.returns
returns c = none_found (AreMatching c.args.values.now c.args.class) _ _ (omega arith) c.loop-other.invariant
