use Rattle.std.proofs.Common.{◌≡◌, arith, false, true, rules}
use Rattle.lfg_solve.specs.Found.{LeadsBy, SomeOf}
use Rattle.lfg_solve.proofs.Finding.{EachOf-none, EachOf-read, each_found, not_so, one_fails}
use Rattle.lfg_solve.proofs.conditions.has_each.Goals as goal

pub loop-function-init : goal.loop-function-init
loop-function-init c = EachOf-none (λ g. SomeOf (LeadsBy c.args.class g) c.args.arcs.now)

pub returns-then-not-has_function : goal.returns-then-not-has_function
returns-then-not-has_function c = let f : c.has_function.result ≡ false = search rules in one_fails (λ g. SomeOf (LeadsBy c.args.class g) c.args.arcs.now) _ _ _ (omega arith) c.function-item.is (not_so _ _ c.has_function.ensures f)

pub loop-function-preserved : goal.loop-function-preserved
loop-function-preserved c = let t : c.has_function.result ≡ true = search rules in EachOf-read (λ g. SomeOf (LeadsBy c.args.class g) c.args.arcs.now) _ _ _ (omega arith) c.function-item.is c.loop-function.invariant (c.has_function.ensures.0 t)

pub returns : goal.returns
returns c = each_found (λ g. SomeOf (LeadsBy c.args.class g) c.args.arcs.now) _ _ (omega arith) c.loop-function.invariant
