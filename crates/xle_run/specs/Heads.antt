-- The places of rules, and what the program tests of them.
use Rattle.std.specs.Prelude.{ℕ, ◌+◌, ◌&&◌, Bool, true, cond, not, nat_lt, Option, Some, None, List, [], ◌∷◌}
use Rattle.std.specs.List.{list_all}
use Rattle.std.specs.Ordering.{is_eq}
use Rattle.lfg_terms.specs.Order.{name_cmp}
use Rattle.lfg_model.specs.Lists.{In, Once}
use Rattle.lfg_model.specs.Terms.{Name}
use Rattle.lfg_model.specs.Thin.{empty_item}
use Rattle.lfg_model.specs.ThinText.{same}
use Rattle.xle_run.specs.declared.thin.draft.Phrase.{Phrase}

-- no category heads two rules, and `e` heads none
pub record HaveOwnRules (cats : List Name) : Type 0 where
  pub once : Once cats
  pub named : ¬ In empty_item cats

-- the place after
abbrev pub next_place : Option ℕ → Option ℕ
next_place None = None
next_place (Some n) = Some (n + 1)

-- the first place at which the name stands, from 0
abbrev pub place_of : Name → List Name → Option ℕ
place_of name [] = None
place_of name (x ∷ xs) = cond (is_eq (name_cmp x name)) (Some 0) (next_place (place_of name xs))

-- the place is behind this one, if there is one
abbrev pub is_behind : ℕ → Option ℕ → Bool
is_behind place None = true
is_behind place (Some other) = nat_lt place other

-- the category is not `e`, and its rule is behind this place if it has one
abbrev pub is_later : (Name → Option ℕ) → ℕ → Name → Bool
is_later places place cat = not (same cat empty_item) && is_behind place (places cat)

-- so are all daughters of the rules from this place on
abbrev pub are_later : (Name → Option ℕ) → ℕ → List Phrase → Bool
are_later places place [] = true
are_later places place (p ∷ ps) = list_all (λ x. is_later places place x.cat) p.daughters.items && are_later places (place + 1) ps
