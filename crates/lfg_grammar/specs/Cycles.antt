-- Categories as places in the list of all, the links between them, and cycles of these.
use Rattle.std.specs.Prelude.{◌≡◌, ◌↔◌, ℕ, ◌<◌, Option, Some, None, List, Vec, length, slice_get, slice_index_or}
use Rattle.std.specs.Global.{Global}
use Rattle.lfg_terms.specs.declared.grammar.Rule.{Rule}
use Rattle.lfg_terms.specs.declared.grammar.Grammar.{Grammar}
use Rattle.lfg_model.specs.Firsts.{First}
use Rattle.lfg_model.specs.Lists.{In}
use Rattle.lfg_model.specs.Loads.{IsUnaryCycle}
use Rattle.lfg_model.specs.TemplateRules.{NoneHas}
use Rattle.lfg_model.specs.Terms.{Name}
use Rattle.lfg_rulegraph.specs.Followers.{IsAt}
use Rattle.lfg_grammar.specs.declared.reach.Link.{Link}
use Rattle.lfg_grammar.specs.OnlyDaughters.{IsOnlyDaughter}
use Rattle.lfg_grammar.specs.Reach.{link}

-- ---- the first of a list

-- the first with P stands at this place, counted from 0
pub record IsFirstAt {X : Type 0} (P : X → Type 0) (xs : List X) (place : ℕ) : Type 0 where
  pub within : place < length xs
  pub first : X
  pub at : slice_get xs place ≡ Some first
  pub is_first : First P xs first

-- the place of the first with P, or none where nothing has P
abbrev pub FirstPlace : {X : Type 0} → (X → Type 0) → List X → Option ℕ → Type 0
FirstPlace P xs None = NoneHas P xs
FirstPlace P xs (Some place) = IsFirstAt P xs place

-- ---- links between categories

-- the category at place a is that of the rule, which can have the category at place b as its only
-- daughter
pub record RuleLinks (cats : List Name) (r : Rule) (a b : ℕ) : Type 0 where
  pub above : slice_get cats a ≡ Some r.cat
  pub daughter : Name
  pub below : slice_get cats b ≡ Some daughter
  pub only : IsOnlyDaughter r daughter

-- some rule links the categories at these places
pub record SomeRuleLinks (cats : List Name) (rs : List Rule) (a b : ℕ) : Type 0 where
  pub rule : Rule
  pub among : In rule rs
  pub links : RuleLinks cats rule a b

-- the links are those of these rules
pub record AreRuleLinks (cats : List Name) (rs : List Rule) (links : List Link) : Type 0 where
  pub each : (a b : ℕ) → In (link a b) links ↔ SomeRuleLinks cats rs a b

-- ---- cycles

-- one place leads to the other over the table, at once or through others
pub data LeadsTo (next : List (Vec ℕ Global)) : ℕ → ℕ → Type 0 where
  at_once : {i j : ℕ} → IsAt next i j → LeadsTo next i j
  further : {i j k : ℕ} → LeadsTo next i j → IsAt next j k → LeadsTo next i k

-- the rank of a place, which is 0 where it has none
abbrev pub rank_of : List ℕ → ℕ → ℕ
rank_of ranks i = slice_index_or ranks i 0

-- the place has a rank, and a lower one than this
abbrev pub RanksBelow : List ℕ → ℕ → ℕ → Type 0
RanksBelow ranks rank j = (0 < rank_of ranks j) × (rank_of ranks j < rank)

-- what a place with a rank is linked to has a lower rank
pub record RanksFall (next : List (Vec ℕ Global)) (ranks : List ℕ) : Type 0 where
  pub each : (i j : ℕ) → 0 < rank_of ranks i → IsAt next i j → RanksBelow ranks (rank_of ranks i) j

-- what is linked to a place with a rank has a lower rank
pub record RanksRise (next : List (Vec ℕ Global)) (ranks : List ℕ) : Type 0 where
  pub each : (i j : ℕ) → 0 < rank_of ranks j → IsAt next i j → RanksBelow ranks (rank_of ranks j) i

-- The table has a list for each category, and a category leads to itself over the table just where
-- its rule is on a unary cycle.
pub record TellsCycles (g : Grammar) (next : List (Vec ℕ Global)) : Type 0 where
  pub wide : length next ≡ length g.cats
  pub each : (r : Rule) (a : ℕ) → slice_get g.cats a ≡ Some r.cat → LeadsTo next a a ↔ IsUnaryCycle g r
