use Rattle.std.proofs.Common.{◌≡◌, arith, false, true, rules}
use Rattle.lfg_solve.specs.Found.{IsMet}
use Rattle.lfg_solve.proofs.Finding.{EachOf-none, EachOf-read, each_found, not_so, one_fails}
use Rattle.lfg_solve.proofs.conditions.is_each_met.Goals as goal

pub loop-value-init : goal.loop-value-init
loop-value-init c = EachOf-none (IsMet c.args.arcs.now c.args.members.now c.args.class c.args.target)

pub returns-then-not-is_met : goal.returns-then-not-is_met
returns-then-not-is_met c = let f : c.is_met.result ≡ false = search rules in one_fails (IsMet c.args.arcs.now c.args.members.now c.args.class c.args.target) _ _ _ (omega arith) c.value-item.is (not_so _ _ c.is_met.ensures f)

pub loop-value-preserved : goal.loop-value-preserved
loop-value-preserved c = let t : c.is_met.result ≡ true = search rules in EachOf-read (IsMet c.args.arcs.now c.args.members.now c.args.class c.args.target) _ _ _ (omega arith) c.value-item.is c.loop-value.invariant (c.is_met.ensures.0 t)

pub returns : goal.returns
returns c = each_found (IsMet c.args.arcs.now c.args.members.now c.args.class c.args.target) _ _ (omega arith) c.loop-value.invariant
