-- Entries in order with the context of one fact changed.
use Rattle.std.specs.Prelude.{◌≡◌, ◌≢◌, ◌↔◌, ℕ, ◌+◌, ◌<◌, ◌≤◌, Bool, List, length, get_or, if◌then◌else◌}
use Rattle.std.specs.declared.cmp.Ordering.TheVariants.{Less, Greater}
use Rattle.lfg_terms.specs.Order.{fact_cmp}
use Rattle.lfg_terms.specs.declared.node.Fact.{Fact}
use Rattle.lfg_model.specs.Lists.{In}
use Rattle.lfg_context.specs.Seen.{Set}
use Rattle.lfg_context.specs.Sets.{Assignment, member}
use Rattle.lfg_store.specs.Facts.{Entries, facts_at, context_of, with_fact, without_fact, IsStore}
use Rattle.lfg_store.specs.declared.edit.Edit.{Edit}
use Rattle.lfg_store.specs.declared.edit.Edit.TheVariants.{Add, Remove}

-- the fact stands at this place
pub record IsAt (es : Entries) (f : Fact) (place : ℕ) : Type 0 where
  pub within : place < length es
  pub same : (d : Fact × Set) → (get_or es place d).0 ≡ f

-- the fact stands nowhere, and this is the place before the greater facts
pub record IsGap (es : Entries) (f : Fact) (place : ℕ) : Type 0 where
  pub within : place ≤ length es
  pub before : (k : ℕ) (d : Fact × Set) → k < place → fact_cmp (get_or es k d).0 f ≡ Less
  pub behind : (k : ℕ) (d : Fact × Set) → place ≤ k → k < length es → fact_cmp (get_or es k d).0 f ≡ Greater

-- there is room for what the edit adds
abbrev pub HasRoom : Edit → Entries → Type 0
HasRoom Add es = length es < 4294967295
HasRoom Remove es = Unit {0}

-- the facts at an assignment of the set after an edit
abbrev pub edited : Edit → Fact → List Fact → List Fact
edited Add f gs = with_fact f gs
edited Remove f gs = without_fact f gs

-- how many entries there are at most after an edit of this many
abbrev pub most : Edit → ℕ → ℕ
most Add n = n + 1
most Remove n = n

-- at each assignment stand the facts that stand there among these entries
pub record HasFactsOf (es new : Entries) : Type 0 where
  pub each : (a : Assignment) (g : Fact) → In g (facts_at new a) ↔ In g (facts_at es a)

-- The entries after an edit: the fact's facts are edited where the set has the assignment, and
-- nothing else changes.
pub record IsEdited (edit : Edit) (old : Entries) (f : Fact) (x : Set) (new : Entries) : Type 0 where
  pub facts : (a : Assignment) → facts_at new a ≡ (if member x a then edited edit f (facts_at old a) else facts_at old a)
  pub others : (g : Fact) → g ≢ f → context_of new g ≡ context_of old g
  pub store : IsStore new
  pub growth : length new ≤ most edit (length old)
