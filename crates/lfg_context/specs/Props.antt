-- Two proofs of one of these words are equal, so that a struct can hold it in a ghost field, as in
-- `ghost good_made: { IsMade contexts good } by { is_made_prop contexts good }`.
use Rattle.std.specs.Prelude.{ℕ, List}
use Rattle.std.proofs.Props.{props}
use Rattle.lfg_terms.specs.declared.choice.Choice.{Choice}
use Rattle.lfg_context.specs.Seen.{Set, Known}
use Rattle.lfg_context.specs.Sets.{member, IsInTable, IsMade, HasPicksOf, AreMade, DependsOnFirst}

pub is_made_prop : (k : Known) (x : Set) → IsProp (IsMade k x)
unfolding IsInTable member
is_made_prop k x = hlevel props

pub are_made_prop : {X : Type 0} (k : Known) (set_of : X → Set) (xs : List X) → IsProp (AreMade k set_of xs)
unfolding IsInTable member
are_made_prop {X} k set_of xs = hlevel props

pub has_picks_prop : (k : Known) (space : List Choice) → IsProp (HasPicksOf k space)
has_picks_prop k space = hlevel props

pub depends_prop : (n : ℕ) (x : Set) → IsProp (DependsOnFirst n x)
unfolding member
depends_prop n x = hlevel props
