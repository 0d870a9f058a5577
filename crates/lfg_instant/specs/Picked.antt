-- Which choices contexts have picked.
use Rattle.std.specs.Prelude.{◌≡◌, ℕ, ◌≤◌, List, length}
use Rattle.lfg_terms.specs.declared.choice.Choice.{Choice}
use Rattle.lfg_context.specs.Seen.{Known}
use Rattle.lfg_context.specs.Sets.{arity_of, HasPicksOf}

-- These contexts have picked choices of the space alone, each with its number of alternatives there.
pub record HavePickedOf (k : Known) (space : List Choice) : Type 0 where
  pub agree : HasPicksOf k space
  pub only : (c : ℕ) → length space ≤ c → arity_of k c ≡ 0
