-- Which assignments of a sentence's choices are good, and the facts that stand at them.
use Rattle.std.specs.Prelude.{◌≡◌, ◌↔◌, true, List}
use Rattle.lfg_terms.specs.Order.{fact_cmp}
use Rattle.lfg_terms.specs.declared.node.Fact.{Fact}
use Rattle.lfg_terms.specs.declared.grammar.Grammar.{Grammar}
use Rattle.lfg_terms.specs.declared.literal.Literal.{Literal}
use Rattle.lfg_terms.specs.declared.tree.TokenForms.{TokenForms}
use Rattle.lfg_context.specs.Seen.{Set}
use Rattle.lfg_context.specs.Sets.{Assignment, member}
use Rattle.lfg_context.specs.Telling.{Tells}
use Rattle.lfg_model.specs.Derive.{Whole}
use Rattle.lfg_model.specs.Lists.{Lists}
use Rattle.lfg_model.specs.Literals.{checks}
use Rattle.lfg_model.specs.Readings.{IsFact}
use Rattle.lfg_model.specs.Solve.{solution, Clash, IsComplete, IsCoherent, IsWellFormed}
use Rattle.lfg_model.specs.Terms.{Name, Tree}
use Rattle.lfg_constrain.specs.Checks.{AreSatisfied}
use Rattle.lfg_unify.specs.Holding.{holding, Stated}
use Rattle.lfg_store.specs.Facts.{Entries, facts_at}

-- the literals that hold at the assignment do not clash, and their constraints are true
pub record IsConsistentAt (literals : List (Literal × Set)) (a : Assignment) : Type 0 where
  pub consistent : ¬ Clash (solution (holding literals a))
  pub satisfied : AreSatisfied literals a

-- the assignment is in the set, and the f-structure there is complete and coherent
pub record IsCompleteWithin (literals : List (Literal × Set)) (governable : List Name) (set : Set) (a : Assignment) : Type 0 where
  pub within : member set a ≡ true
  pub complete : IsComplete (solution (holding literals a))
  pub coherent : IsCoherent (solution (holding literals a)) governable

-- the solution of the literals that hold at the assignment meets all conditions on an f-structure
abbrev pub IsWellFormedAt : Grammar → List (Literal × Set) → Assignment → Type 0
IsWellFormedAt g literals a = IsWellFormed (solution (holding literals a)) g.governable (checks (holding literals a))

-- the same, and there is a derivation of the whole sentence
pub record IsGood (g : Grammar) (s : List TokenForms) (literals : List (Literal × Set)) (a : Assignment) : Type 0 where
  pub derivation : Tree
  pub whole : Whole g s derivation
  pub well_formed : IsWellFormedAt g literals a

-- the new entries have what the old ones have within the set
pub record Restricts (old : Entries) (set : Set) (new : Entries) : Type 0 where
  pub each : (a : Assignment) (f : Fact) → Stated new a f ↔ (Stated old a f × (member set a ≡ true))

-- at each assignment of the set the store has the tree facts that stand there, and at no other any
abbrev pub HasTreeWithin : Entries → Set → Entries → Type 0
HasTreeWithin listed set tree = (a : Assignment) → Lists fact_cmp (λ f. Stated listed a f × (member set a ≡ true)) (facts_at tree a)

-- at each assignment of the set the store has the facts of the f-structure there, and at no other any
abbrev pub HasFactsWithin : List (Literal × Set) → Set → Entries → Type 0
HasFactsWithin literals set facts = (a : Assignment) → Lists fact_cmp (λ f. (member set a ≡ true) × IsFact (solution (holding literals a)) f) (facts_at facts a)

-- The set is that of the good assignments, and the stores have at each of them its tree facts and the
-- facts of its f-structure, and at no other any.
pub record IsJudged (g : Grammar) (s : List TokenForms) (literals : List (Literal × Set)) (listed : Entries) (good : Set) (tree facts : Entries) : Type 0 where
  pub good_is : Tells good (IsGood g s literals)
  pub tree_is : HasTreeWithin listed good tree
  pub facts_are : HasFactsWithin literals good facts
