-- What a packed value is made of.
use Rattle.std.specs.Prelude.{◌≡◌, ◌≢◌, ℕ, ◌≤◌, true, List, length}
use Rattle.lfg_terms.specs.declared.choice.Choice.{Choice}
use Rattle.lfg_terms.specs.declared.node.Fact.{Fact}
use Rattle.lfg_model.specs.Lists.{In}
use Rattle.lfg_context.specs.Seen.{Set, Known}
use Rattle.lfg_context.specs.Sets.{Assignment, member, arity_of, IsMade, AreMade, HasPicksOf, DependsOnFirst}
use Rattle.lfg_store.specs.Facts.{Entries}

-- the sets of the entries were made by these contexts
abbrev pub AreMadeBy : Known → Entries → Type 0
AreMadeBy k es = AreMade k (λ e. e.1) es

-- the sets of the entries depend on the first n choices alone
pub record DependOnFirst (n : ℕ) (es : Entries) : Type 0 where
  pub each : (e : Fact × Set) → In e es → DependsOnFirst n e.1

-- each assignment of an entry's set is in the set
pub record LieIn (good : Set) (es : Entries) : Type 0 where
  pub each : (e : Fact × Set) → In e es → (a : Assignment) → member e.1 a ≡ true → member good a ≡ true

-- the contexts of the entries are those of a packed value
pub record ArePacked (k : Known) (space : List Choice) (good : Set) (es : Entries) : Type 0 where
  pub made : AreMadeBy k es
  pub depend : DependOnFirst (length space) es
  pub within : LieIn good es

-- Each set of a packed value was made by its contexts and depends on the choices of its space alone,
-- and each context of a fact lies within the good assignments. A choice of the space that was picked
-- was picked with its number of alternatives, and one behind the end of the space with two.
pub record IsPacked (k : Known) (space : List Choice) (good : Set) (tree facts : Entries) : Type 0 where
  pub good_made : IsMade k good
  pub good_depends : DependsOnFirst (length space) good
  pub tree_packed : ArePacked k space good tree
  pub facts_packed : ArePacked k space good facts
  pub picks : HasPicksOf k space
  pub behind : (c : ℕ) → length space ≤ c → arity_of k c ≢ 0 → arity_of k c ≡ 2
