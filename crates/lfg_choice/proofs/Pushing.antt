-- A space with one more choice. Crates above name these lemmas in
-- `using(lfg_choice::proofs::Pushing::pushing)`.
use Rattle.std.proofs.Common.{◌≡◌, ℕ, zero, suc, ◌+◌, ◌<◌, List, [], ◌∷◌, ◌++◌, length, refl, arith}
use Rattle.lfg_terms.specs.declared.choice.Choice.{Choice}
use Rattle.lfg_choice.specs.Choices.{alternatives_of}

-- each earlier choice keeps its number of alternatives
pub alternatives_of-push_old : (cs : List Choice) (x : Choice) (c : ℕ) → c < length cs → alternatives_of (cs ++ x ∷ []) c ≡ alternatives_of cs c
alternatives_of-push_old [] x c h = absurd (omega arith)
alternatives_of-push_old (y ∷ cs) x zero h = refl
alternatives_of-push_old (y ∷ cs) x (suc c) h = alternatives_of-push_old cs x c (omega arith)

-- the new choice has its own
pub alternatives_of-push_new : (cs : List Choice) (x : Choice) (c : ℕ) → c ≡ length cs → alternatives_of (cs ++ x ∷ []) c ≡ x.alternatives
alternatives_of-push_new [] x zero e = refl
alternatives_of-push_new [] x (suc c) e = absurd (omega arith)
alternatives_of-push_new (y ∷ cs) x zero e = absurd (omega arith)
alternatives_of-push_new (y ∷ cs) x (suc c) e = alternatives_of-push_new cs x c (omega arith)

pub ruleset pushing = (alternatives_of-push_old, alternatives_of-push_new)
