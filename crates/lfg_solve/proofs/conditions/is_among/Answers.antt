use Rattle.std.proofs.Common.{◌≡◌, arith, List, ℕ}
use Rattle.lfg_solve.proofs.Finding.{NoneOf-none, NoneOf-read, among_found, among_none, not_so}
use Rattle.lfg_solve.proofs.conditions.is_among.Goals as goal

pub loop-other-init : goal.loop-other-init
loop-other-init c = NoneOf-none (λ (n : List ℕ). n ≡ c.args.name.now)

pub returns-then-same_name : goal.returns-then-same_name
returns-then-same_name c = among_found _ _ _ _ (omega arith) c.other-item.is (c.same_name.ensures.0 c.if-same_name.true)

pub loop-other-preserved : goal.loop-other-preserved
loop-other-preserved c = NoneOf-read (λ (n : List ℕ). n ≡ c.args.name.now) _ _ _ (omega arith) c.other-item.is c.loop-other.invariant (not_so _ _ c.same_name.ensures c.if-same_name.false)

pub returns : goal.returns
returns c = among_none _ _ _ (omega arith) c.loop-other.invariant
