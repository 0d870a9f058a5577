use Rattle.std.proofs.Common.{◌≡◌, arith, false, true, rules}
use Rattle.lfg_solve.specs.Found.{IsCoherentAt}
use Rattle.lfg_solve.proofs.Finding.{EachOf-none, EachOf-read, each_found, not_so, one_fails}
use Rattle.lfg_solve.proofs.conditions.is_each_coherent.Goals as goal

pub loop-arc-init : goal.loop-arc-init
loop-arc-init c = EachOf-none (IsCoherentAt c.args.governable.now c.args.values.now c.args.arcs.now c.args.members.now)

pub returns-then-not-is_coherent_at : goal.returns-then-not-is_coherent_at
returns-then-not-is_coherent_at c = let f : c.is_coherent_at.result ≡ false = search rules in one_fails (IsCoherentAt c.args.governable.now c.args.values.now c.args.arcs.now c.args.members.now) _ _ _ (omega arith) c.arc-item.is (not_so _ _ c.is_coherent_at.ensures f)

pub loop-arc-preserved : goal.loop-arc-preserved
loop-arc-preserved c = let t : c.is_coherent_at.result ≡ true = search rules in EachOf-read (IsCoherentAt c.args.governable.now c.args.values.now c.args.arcs.now c.args.members.now) _ _ _ (omega arith) c.arc-item.is c.loop-arc.invariant (c.is_coherent_at.ensures.0 t)

pub returns : goal.returns
returns c = each_found (IsCoherentAt c.args.governable.now c.args.values.now c.args.arcs.now c.args.members.now) _ _ (omega arith) c.loop-arc.invariant
