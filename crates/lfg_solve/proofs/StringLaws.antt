-- The string with a number, as a place of the list.
use Rattle.std.proofs.Common.{◌≡◌, ℕ, zero, suc, List, [], ◌∷◌, get_or, refl}
use Rattle.lfg_model.specs.Terms.{Path}
use Rattle.lfg_model.specs.Resolve.{string_at}

pub string_at-get_or : (ps : List Path) (k : ℕ) → string_at ps k ≡ get_or ps k []
string_at-get_or [] zero = refl
string_at-get_or [] (suc k) = refl
string_at-get_or (p ∷ ps) zero = refl
string_at-get_or (p ∷ ps) (suc k) = string_at-get_or ps k

pub ruleset strings = (string_at-get_or)
