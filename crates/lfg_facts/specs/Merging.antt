-- Facts in order, each once with the union of its sets.
use Rattle.std.specs.Prelude.{◌≡◌, ◌≢◌, ◌↔◌, ◌⊎◌, ◌||◌, [], ◌∷◌, ◌++◌, map}
use Rattle.std.specs.List.Sorted.{IsStrictlySortedBy, IsSortedByKey}
use Rattle.lfg_terms.specs.Order.{fact_cmp}
use Rattle.lfg_terms.specs.declared.node.Fact.{Fact}
use Rattle.lfg_context.specs.Seen.{Set}
use Rattle.lfg_context.specs.Sets.{Assignment, member}
use Rattle.lfg_unify.specs.Holding.{Stated}
use Rattle.lfg_facts.specs.Stating.{Entries}

-- no fact of the list comes before the one in front of it
abbrev pub IsSortedByFact : Entries → Type 0
IsSortedByFact = IsSortedByKey (λ e. e.0) fact_cmp

-- the last entry has another fact, if there is one
pub record IsOther (old : Entries) (fact : Fact) : Type 0 where
  pub each : (front : Entries) (last : Fact × Set) → old ≡ front ++ last ∷ [] → last.0 ≢ fact

-- the last entry has the fact, and its set grew by that of the entry
pub record IsWider (old : Entries) (entry : Fact × Set) (new : Entries) : Type 0 where
  pub front : Entries
  pub narrow : Set
  pub wide : Set
  pub was : old ≡ front ++ (entry.0, narrow) ∷ []
  pub is : new ≡ front ++ (entry.0, wide) ∷ []
  pub members : (a : Assignment) → member wide a ≡ (member narrow a || member entry.1 a)

-- the entry was put behind the others, or united with the last of them
pub record Puts (old : Entries) (entry : Fact × Set) (new : Entries) : Type 0 where
  pub either : (IsOther old entry.0 × (new ≡ old ++ entry ∷ [])) ⊎ IsWider old entry new

-- The facts of the entries at each assignment, in order and each once.
pub record IsMerged (entries facts : Entries) : Type 0 where
  pub ascends : IsStrictlySortedBy fact_cmp (map (λ e. e.0) facts)
  pub each : (a : Assignment) (f : Fact) → Stated facts a f ↔ Stated entries a f
