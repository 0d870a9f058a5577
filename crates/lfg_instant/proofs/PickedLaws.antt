-- What contexts have picked, call after call.
use Rattle.std.proofs.Common.{◌≡◌, ◌≢◌, ℕ, ◌<◌, ◌⊎◌, List, length, ◌∙◌, arith}
use Rattle.lfg_terms.specs.declared.choice.Choice.{Choice}
use Rattle.lfg_choice.specs.Choices.{alternatives_of}
use Rattle.lfg_context.specs.Seen.{Known}
use Rattle.lfg_context.specs.Sets.{arity_of, HasPicksOf, HasSamePicks}
use Rattle.lfg_context.proofs.Growing.{picks_kept, no_picks, pickable}
use Rattle.lfg_instant.specs.Picked.{HavePickedOf}

-- contexts that have picked nothing have picked choices of each space alone
pub none_picked : {k : Known} (space : List Choice) → ((c : ℕ) → arity_of k c ≡ 0) → HavePickedOf k space
none_picked {k} space none = record { agree = no_picks space none; only = λ c l. none c }

-- so it is after calls that pick nothing
pub picked_kept : {k l : Known} {space : List Choice} → HasSamePicks k l → HavePickedOf k space → HavePickedOf l space
picked_kept {k} {l} {space} same h = record { agree = picks_kept same h.agree; only = λ c w. same.arities c ∙ h.only c w }

-- and after a choice of the space was picked
pub picked_more : {k l : Known} {space : List Choice} (choice : ℕ) → HavePickedOf k space → choice < length space → (HasPicksOf k space → HasPicksOf l space)
    → ((c : ℕ) → c ≢ choice → arity_of l c ≡ arity_of k c) → HavePickedOf l space
picked_more {k} {l} {space} choice h within agrees others = record {
  agree = agrees h.agree;
  only = λ c w. others c (λ same. (let no : ⊥ = omega (arith, same) in no)) ∙ h.only c w;
}

pub pickable_of : {k : Known} {space : List Choice} (c : ℕ) → HavePickedOf k space → c < length space → (arity_of k c ≡ 0) ⊎ (arity_of k c ≡ alternatives_of space c)
pickable_of {k} {space} c h within = pickable c h.agree within

-- Lemmas for a function that picks.
pub ruleset picked = (picked_kept, picked_more, pickable_of)
