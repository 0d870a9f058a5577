-- What is written down of a sentence before its literals are made, and what its contexts mean.
use Rattle.std.specs.Prelude.{◌≡◌, ◌↔◌, ℕ, ◌+◌, true, Some, List, [], ◌∷◌, length, slice_get}
use Rattle.lfg_terms.specs.Order.{fact_cmp}
use Rattle.lfg_terms.specs.declared.node.Edge.{Edge}
use Rattle.lfg_terms.specs.declared.node.Fact.{Fact}
use Rattle.lfg_terms.specs.declared.grammar.Grammar.{Grammar}
use Rattle.lfg_terms.specs.declared.tree.TokenForms.{TokenForms}
use Rattle.lfg_chart.specs.Chart.{ChartForm}
use Rattle.lfg_context.specs.Seen.{Set}
use Rattle.lfg_context.specs.Sets.{Assignment, member}
use Rattle.lfg_model.specs.Charts.{points_of, IsChart}
use Rattle.lfg_model.specs.Lists.{In, Lists}
use Rattle.lfg_model.specs.Loaded.{Loaded}
use Rattle.lfg_model.specs.Picked.{Selection, OfEdge, OfPoint, Reached, SiteReached, IsReached}
use Rattle.lfg_model.specs.Spots.{Spot}
use Rattle.lfg_packed.specs.declared.key.ChoiceKey.{ChoiceKey}
use Rattle.lfg_packed.specs.Choices.{PlacedChoice}
use Rattle.lfg_packed.specs.Counts.{IsTreeFact}
use Rattle.lfg_packed.specs.SpotFacts.{spot_facts}
use Rattle.lfg_packed.proofs.Selecting.{selection}
use Rattle.lfg_instant.specs.declared.steps.Step.{Step}
use Rattle.lfg_instant.specs.declared.steps.Word.{Word}
use Rattle.lfg_instant.specs.Sites.{AreEntryLists, site_of_key, AreSiteKeys}
use Rattle.lfg_instant.specs.Steps.{AreSteps, AreWordsOf}

-- edges with what stands beside them
abbrev pub words_beside : List Edge → List (List ℕ) → List (Edge × List ℕ)
words_beside [] lists = []
words_beside (e ∷ edges) [] = []
words_beside (e ∷ edges) (ks ∷ lists) = (e, ks) ∷ words_beside edges lists

-- a sentence's chart, entries, steps, words, items and entries, and facts of trees
pub record IsOutline (g : Grammar) (s : List TokenForms) (chart : ChartForm) (lists : List (List ℕ)) (steps : List Step) (words : List Word) (keys : List ChoiceKey) (facts : List Fact) : Type 0 where
  pub loaded : Loaded g
  pub is_chart : IsChart g s chart.edges chart.forks
  pub entries : AreEntryLists g s chart.edges lists
  pub all_steps : AreSteps chart.forks steps
  pub all_words : AreWordsOf chart.edges lists words
  pub all_keys : AreSiteKeys g s keys
  pub all_facts : Lists fact_cmp (IsTreeFact g s) facts

-- what an assignment selects
abbrev pub selected : Grammar → List TokenForms → List PlacedChoice → ChartForm → List (List ℕ) → Assignment → Selection
selected g s cs chart lists a = selection g s cs chart.forks (words_beside chart.edges lists) a

-- a fact of the tree of what is reached
abbrev pub FactReached : Grammar → List TokenForms → Selection → Fact → Type 0
FactReached g s c f = (x : Spot) × IsReached g s c x × In f (spot_facts g s x)

-- The sets of a list, from a place on, are those of the things of another: each has the assignments
-- at which its thing is there.
pub record AreSetsOf {X : Type 0} (P : Assignment → X → Type 0) (from : ℕ) (xs : List X) (table : List Set) : Type 0 where
  pub each : (i : ℕ) (x : X) (set : Set) → slice_get xs i ≡ Some x → slice_get table (from + i) ≡ Some set
      → (a : Assignment) → (member set a ≡ true) ↔ P a x

-- The table has the sets of the edges, then of the points, of the items and entries, and of the
-- facts: the assignments by which each is reached.
pub record IsReachedTable (g : Grammar) (s : List TokenForms) (cs : List PlacedChoice) (chart : ChartForm) (lists : List (List ℕ)) (keys : List ChoiceKey) (facts : List Fact) (table : List Set) : Type 0 where
  pub len : length table ≡ length chart.edges + length (points_of chart.forks) + length keys + length facts
  pub edges : AreSetsOf (λ a e. Reached g s (selected g s cs chart lists a) (OfEdge e)) 0 chart.edges table
  pub points : AreSetsOf (λ a p. Reached g s (selected g s cs chart lists a) (OfPoint p)) (length chart.edges) (points_of chart.forks) table
  pub sites : AreSetsOf (λ a k. SiteReached g s (selected g s cs chart lists a) (site_of_key k)) (length chart.edges + length (points_of chart.forks)) keys table
  pub facts_reached : AreSetsOf (λ a f. FactReached g s (selected g s cs chart lists a) f) (length chart.edges + length (points_of chart.forks) + length keys) facts table
