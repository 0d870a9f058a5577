use Rattle.std.proofs.Common.{◌≡◌, arith, false, true, rules}
use Rattle.lfg_solve.specs.Found.{IsFilledBy, SomeOf}
use Rattle.lfg_solve.proofs.Finding.{EachOf-none, EachOf-read, each_found, not_so, one_fails}
use Rattle.lfg_solve.proofs.conditions.has_each_filled.Goals as goal

pub loop-function-init : goal.loop-function-init
loop-function-init c = EachOf-none (λ g. SomeOf (IsFilledBy c.args.arcs.now c.args.members.now c.args.class g) c.args.arcs.now)

pub returns-then-not-has_filled : goal.returns-then-not-has_filled
returns-then-not-has_filled c = let f : c.has_filled.result ≡ false = search rules in one_fails (λ g. SomeOf (IsFilledBy c.args.arcs.now c.args.members.now c.args.class g) c.args.arcs.now) _ _ _ (omega arith) c.function-item.is (not_so _ _ c.has_filled.ensures f)

pub loop-function-preserved : goal.loop-function-preserved
loop-function-preserved c = let t : c.has_filled.result ≡ true = search rules in EachOf-read (λ g. SomeOf (IsFilledBy c.args.arcs.now c.args.members.now c.args.class g) c.args.arcs.now) _ _ _ (omega arith) c.function-item.is c.loop-function.invariant (c.has_filled.ensures.0 t)

pub returns : goal.returns
returns c = each_found (λ g. SomeOf (IsFilledBy c.args.arcs.now c.args.members.now c.args.class g) c.args.arcs.now) _ _ (omega arith) c.loop-function.invariant
