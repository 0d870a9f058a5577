-- Marking a place that was not marked.
use Rattle.std.proofs.Common.{◌≡◌, ℕ, zero, suc, ◌<◌, Bool, true, false, List, [], ◌∷◌, length, get_or, refl, ap, arith}
use Rattle.std.proofs.Math.ListN.{set}
use Rattle.lfg_solve.specs.Marks.{unmarked}

pub unmarked-set : (marks : List Bool) (i : ℕ) (d : Bool) → i < length marks → get_or marks i d ≡ false → suc (unmarked (set marks i true)) ≡ unmarked marks
unmarked-set [] i d h e = let no : ⊥ = omega arith in absurd no
unmarked-set (true ∷ marks) zero d h e = cc
unmarked-set (false ∷ marks) zero d h e = refl
unmarked-set (true ∷ marks) (suc i) d h e = unmarked-set marks i d (omega arith) e
unmarked-set (false ∷ marks) (suc i) d h e = ap suc (unmarked-set marks i d (omega arith) e)

pub ruleset marking = (unmarked-set)
