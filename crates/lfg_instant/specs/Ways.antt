-- The ways along which an assignment reaches the edges and points of a chart, and what is met on them.
use Rattle.std.specs.Prelude.{◌≡◌, ◌↔◌, ◌⊎◌, ℕ, ◌+◌, ◌<◌, true, Option, Some, None, List, [], ◌∷◌, ◌++◌, length, map, slice_get}
use Rattle.std.specs.List.Sorted.{IsStrictlySortedBy}
use Rattle.lfg_terms.specs.Order.{fact_cmp}
use Rattle.lfg_terms.specs.declared.node.Edge.{Edge}
use Rattle.lfg_terms.specs.declared.node.Fact.{Fact}
use Rattle.lfg_terms.specs.declared.literal.Site.TheVariants as site
use Rattle.lfg_terms.specs.declared.grammar.Grammar.{Grammar}
use Rattle.lfg_terms.specs.declared.tree.TokenForms.{TokenForms}
use Rattle.lfg_chart.specs.Chart.{ChartForm}
use Rattle.lfg_context.specs.Seen.{Set}
use Rattle.lfg_context.specs.Sets.{Assignment, member}
use Rattle.lfg_model.specs.declared.point.Point.{Point}
use Rattle.lfg_model.specs.Charts.{points_of}
use Rattle.lfg_model.specs.Derive.{edge}
use Rattle.lfg_model.specs.Lists.{In, Once}
use Rattle.lfg_model.specs.Spots.{point}
use Rattle.lfg_model.specs.Terms.{Name}
use Rattle.lfg_model.specs.Trees.{word_facts}
use Rattle.lfg_packed.specs.declared.key.ChoiceKey.{ChoiceKey}
use Rattle.lfg_packed.specs.Assignments.{alternative_at}
use Rattle.lfg_packed.specs.ChoicePoints.{NextAt, EntryAt, key_cmp}
use Rattle.lfg_packed.specs.Choices.{PlacedChoice}
use Rattle.lfg_packed.specs.SpotFacts.{category_at, under_facts}
use Rattle.lfg_instant.specs.declared.flow.Passage.{Passage}
use Rattle.lfg_instant.specs.declared.steps.Step.{Step}
use Rattle.lfg_instant.specs.declared.steps.Word.{Word}
use Rattle.lfg_instant.specs.Sites.{site_key}

-- an edge, a point, an item or entry by its key, or a fact of a tree
pub data Thing : Type 0 where
  TheEdge : Edge → Thing
  ThePoint : Point → Thing
  TheSite : ChoiceKey → Thing
  TheFact : Fact → Thing

-- all things of a sentence, in the order of their places
abbrev pub things_of : ChartForm → List ChoiceKey → List Fact → List Thing
things_of chart keys facts = map TheEdge chart.edges ++ (map ThePoint (points_of chart.forks) ++ (map TheSite keys ++ map TheFact facts))

-- the place at which a thing was found, if it is there
abbrev pub IsPlaceOf : List Thing → Thing → Option ℕ → Type 0
IsPlaceOf things t None = ¬ In t things
IsPlaceOf things t (Some i) = slice_get things i ≡ Some t

-- the daughter's edge over an item of this category; none for `e`
abbrev pub daughters : ℕ → ℕ → Option Name → List Edge
daughters at to None = []
daughters at to (Some cat) = edge cat at to ∷ []

-- that edge, and the fact that it lies under its mother
abbrev pub daughter_things : Edge → ℕ → ℕ → Option Name → List Thing
daughter_things e at to cat = map TheEdge (daughters at to cat) ++ map TheFact (under_facts e at to cat)

-- what a step over an item leads to: the point behind it, the item itself, and its daughter
abbrev pub over_things : Grammar → List TokenForms → Edge → (occ at to : ℕ) → List Thing
over_things g s e occ at to = ThePoint (point e occ to) ∷ TheSite (site_key g s (site.Item e occ at to)) ∷ daughter_things e at to (category_at g e occ)

abbrev pub step_things : Grammar → List TokenForms → Step → List Thing
step_things g s st = over_things g s st.point.edge st.occ st.point.at st.to

-- what an entry leads to: the entry itself, and the fact of the word
abbrev pub word_things : Grammar → List TokenForms → Word → List Thing
word_things g s w = TheSite (site_key g s (site.Entry w.edge w.entry)) ∷ map TheFact (word_facts (slice_get s w.edge.from) w.edge)

-- the place is that of one of some things
abbrev pub IsPlaceIn : List Thing → List Thing → ℕ → Type 0
IsPlaceIn things us i = (u : Thing) × In u us × (slice_get things i ≡ Some u)

-- the places of some things
abbrev pub ArePlacesOf : List Thing → List Thing → List ℕ → Type 0
ArePlacesOf things us places = (i : ℕ) → In i places ↔ IsPlaceIn things us i

-- The things of a sentence stand each once, its keys and facts are in order, and their places are
-- numbers of 64 bits.
pub record AreInOrder (chart : ChartForm) (keys : List ChoiceKey) (facts : List Fact) : Type 0 where
  pub once : Once (things_of chart keys facts)
  pub keys_ascend : IsStrictlySortedBy key_cmp keys
  pub facts_ascend : IsStrictlySortedBy fact_cmp facts
  pub fit : length chart.edges + length (points_of chart.forks) + length keys + length facts < 18446744073709551616

-- the passage leads by this pick from a thing to a thing
pub record Joins (things : List Thing) (t u : Thing) (pick : ℕ) (p : Passage) : Type 0 where
  pub start : slice_get things p.from ≡ Some t
  pub by_pick : p.pick ≡ pick
  pub end : slice_get things p.to ≡ Some u

-- the passage leads by this pick from a thing to one of some things
abbrev pub JoinsOneOf : List Thing → Thing → List Thing → ℕ → Passage → Type 0
JoinsOneOf things t us pick p = (u : Thing) × In u us × Joins things t u pick p

-- The passage leads from an edge to the first point of its rule, by the first pick.
abbrev pub IsStart : List Thing → List Edge → Passage → Type 0
IsStart things edges p = (n : ℕ) × (e : Edge) × (slice_get edges n ≡ Some e) × Joins things (TheEdge e) (ThePoint (point e 0 e.from)) 0 p

-- The passage leads from the point of a step to what the step leads to, by the step's pick.
abbrev pub IsOverStep : Grammar → List TokenForms → List Thing → List Step → (first : ℕ) → Passage → Type 0
IsOverStep g s things steps first p =
    (n : ℕ) × (st : Step) × (slice_get steps n ≡ Some st) × JoinsOneOf things (ThePoint st.point) (step_things g s st) (first + n) p

-- The passage leads from the edge of a word to what its entry leads to, by the word's pick.
abbrev pub IsToEntry : Grammar → List TokenForms → List Thing → List Word → (first : ℕ) → Passage → Type 0
IsToEntry g s things words first p =
    (n : ℕ) × (w : Word) × (slice_get words n ≡ Some w) × JoinsOneOf things (TheEdge w.edge) (word_things g s w) (first + n) p

-- all passages of a sentence
pub record ArePassages (g : Grammar) (s : List TokenForms) (things : List Thing) (edges : List Edge) (steps : List Step) (words : List Word) (passages : List Passage) : Type 0 where
  pub exact : (p : Passage) → In p passages ↔ (IsStart things edges p ⊎ (IsOverStep g s things steps 1 p ⊎ IsToEntry g s things words (1 + length steps) p))

-- each step's set is that of the assignments that take its way at its point
pub record AreStepPicks (g : Grammar) (s : List TokenForms) (cs : List PlacedChoice) (steps : List Step) (picks : List Set) : Type 0 where
  pub beside : length picks ≡ length steps
  pub each : (n : ℕ) (st : Step) (x : Set) → slice_get steps n ≡ Some st → slice_get picks n ≡ Some x
      → (a : Assignment) → (member x a ≡ true) ↔ (alternative_at g s cs a (NextAt st.point) ≡ st.number)

-- each word's set is that of the assignments that take its entry at its edge
pub record AreWordPicks (g : Grammar) (s : List TokenForms) (cs : List PlacedChoice) (words : List Word) (picks : List Set) : Type 0 where
  pub beside : length picks ≡ length words
  pub each : (n : ℕ) (w : Word) (x : Set) → slice_get words n ≡ Some w → slice_get picks n ≡ Some x
      → (a : Assignment) → (member x a ≡ true) ↔ (alternative_at g s cs a (EntryAt w.edge) ≡ w.number)

-- the picks of passages: all assignments, then the sets of the steps and of the words
pub record ArePicks (step_picks word_picks picks : List Set) : Type 0 where
  pub all : Set
  pub are : picks ≡ all ∷ (step_picks ++ word_picks)
  pub has_all : (a : Assignment) → member all a ≡ true
