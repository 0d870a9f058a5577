use Rattle.std.proofs.Common.{◌≡◌, take, List, ℕ}
use Rattle.lfg_solve.proofs.Finding.{NoneOf}
use Rattle.lfg_solve.proofs.conditions.is_among.Given as goal

abbrev pub invariant-loop-other : goal.invariant-loop-other
invariant-loop-other l = NoneOf (λ (n : List ℕ). n ≡ l.name) (take l.other-index l.names)
