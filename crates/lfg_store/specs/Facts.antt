-- Facts with the sets of assignments at which they stand, and the facts that stand at an assignment.
use Rattle.std.specs.Prelude.{◌≡◌, ℕ, ◌≤◌, Bool, true, false, not, List, [], ◌∷◌, length, map, filter, Option, Some, None, slice_get, ◌&&◌, if◌then◌else◌}
use Rattle.std.specs.Ordering.{eq_by_cmp, match_ordering}
use Rattle.std.specs.List.Sorted.{IsStrictlySortedBy}
use Rattle.lfg_terms.specs.Order.{arg_cmp, fact_cmp}
use Rattle.lfg_terms.specs.declared.node.Arg.{Arg}
use Rattle.lfg_terms.specs.declared.node.Fact.{Fact}
use Rattle.lfg_model.specs.Lists.{In}
use Rattle.lfg_model.specs.Terms.{Name, same_name}
use Rattle.lfg_context.specs.Seen.{Set}
use Rattle.lfg_context.specs.Sets.{Assignment, member}

-- facts with their contexts
abbrev pub Entries : Type 0
Entries = List (Fact × Set)

-- of things with sets, those whose set has the assignment, in order
abbrev pub held : {X : Type 0} → List (X × Set) → Assignment → List X
held [] a = []
held (e ∷ es) a = if member e.1 a then e.0 ∷ held es a else held es a

-- the facts that stand at an assignment, in order
abbrev pub facts_at : Entries → Assignment → List Fact
facts_at es a = held es a

-- the facts that stand at some assignment, in order
abbrev pub facts_of : Entries → List Fact
facts_of es = map (λ e. e.0) es

-- two facts are one
abbrev pub same_fact : Fact → Fact → Bool
same_fact = eq_by_cmp fact_cmp

-- the context of a fact, where it has one
abbrev pub context_of : Entries → Fact → Option Set
context_of [] f = None
context_of (e ∷ es) f = if same_fact e.0 f then Some e.1 else context_of es f

-- facts in order with one more, at its place; a fact that is there stays
abbrev pub with_fact : Fact → List Fact → List Fact
with_fact f [] = f ∷ []
with_fact f (g ∷ gs) = match_ordering (fact_cmp f g) (f ∷ g ∷ gs) (g ∷ gs) (g ∷ with_fact f gs)

-- facts without this one
abbrev pub without_fact : Fact → List Fact → List Fact
without_fact f gs = filter (λ g. not (same_fact f g)) gs

-- whether the fact is of the relation
abbrev pub is_of : Name → Fact → Bool
is_of relation f = same_name f.rel relation

-- whether this is the argument
abbrev pub is_argument : Arg → Option Arg → Bool
is_argument arg None = false
is_argument arg (Some other) = eq_by_cmp arg_cmp other arg

-- whether the fact is of the relation and has the argument at the place, counted from 0
abbrev pub has_argument : Name → ℕ → Arg → Fact → Bool
has_argument relation place arg f = is_of relation f && is_argument arg (slice_get f.args place)

-- some assignment is in the set
pub record HasMember (x : Set) : Type 0 where
  pub assignment : Assignment
  pub has : member x assignment ≡ true

-- A finite map from facts to contexts that are not empty: the facts ascend, each once.
pub record IsStore (es : Entries) : Type 0 where
  pub ascends : IsStrictlySortedBy fact_cmp (facts_of es)
  pub stands : (e : Fact × Set) → In e es → HasMember e.1
  pub room : length es ≤ 4294967295
