use Rattle.std.proofs.Common.{arith}
use Rattle.lfg_solve.specs.Found.{SomeOf}
use Rattle.lfg_solve.specs.Walking.{AreMatching}
use Rattle.lfg_solve.proofs.Finding.{NoneOf-none, NoneOf-read, none_found, not_so, some_found, get_or-again}
use Rattle.lfg_solve.proofs.checks.any_matches.Goals as goal

pub loop-class-init : goal.loop-class-init
loop-class-init c = NoneOf-none (λ class. SomeOf (AreMatching c.args.values.now class) c.args.others.now)

pub returns-then-matches_any : goal.returns-then-matches_any
returns-then-matches_any c = some_found (λ class. SomeOf (AreMatching c.args.values.now class) c.args.others.now) c.args.classes.now c.loop-class.class-index _ (omega arith) (get_or-again c.args.classes.now c.loop-class.class-index 0 (omega arith)) (c.matches_any.ensures.0 c.if-matches_any.true)

pub loop-class-preserved : goal.loop-class-preserved
loop-class-preserved c = NoneOf-read (λ class. SomeOf (AreMatching c.args.values.now class) c.args.others.now) c.args.classes.now c.loop-class.class-index _ (omega arith) (get_or-again c.args.classes.now c.loop-class.class-index 0 (omega arith)) c.loop-class.invariant (not_so _ _ c.matches_any.ensures c.if-matches_any.false)

pub returns : goal.returns
returns c = none_found (λ class. SomeOf (AreMatching c.args.values.now class) c.args.others.now) _ _ (omega arith) c.loop-class.invariant
