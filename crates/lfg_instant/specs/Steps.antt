-- The ways in which derivations go on over items, and the entries that they take, one by one.
use Rattle.std.specs.Prelude.{◌≡◌, ◌↔◌, ℕ, Some, List, length, slice_get}
use Rattle.lfg_terms.specs.declared.node.Edge.{Edge}
use Rattle.lfg_model.specs.declared.point.Point.{Point}
use Rattle.lfg_model.specs.declared.point.Next.{Next}
use Rattle.lfg_model.specs.declared.point.Next.TheVariants as next
use Rattle.lfg_model.specs.Charts.{Fork}
use Rattle.lfg_model.specs.Lists.{In}
use Rattle.lfg_instant.specs.declared.steps.Step.{Step}
use Rattle.lfg_instant.specs.declared.steps.Word.{Word}

-- the step is one of the ways to go on at a point: over this item, by this number among so many
pub record IsStepAt (place : ℕ) (point : Point) (ways : List Next) (step : Step) : Type 0 where
  pub there : step.place ≡ place
  pub at : step.point ≡ point
  pub taken : slice_get ways step.number ≡ Some (next.Item step.occ step.to)
  pub many : step.of ≡ length ways

-- the step is one of a chart's
pub record IsStepOf (forks : List Fork) (step : Step) : Type 0 where
  pub ways : List Next
  pub listed : slice_get forks step.place ≡ Some (step.point, ways)
  pub taken : slice_get ways step.number ≡ Some (next.Item step.occ step.to)
  pub many : step.of ≡ length ways

-- all steps of a chart
pub record AreSteps (forks : List Fork) (steps : List Step) : Type 0 where
  pub exact : (step : Step) → In step steps ↔ IsStepOf forks step

-- the word is an edge with one of its entries, by this number among so many
pub record IsWordAt (place : ℕ) (edge : Edge) (entries : List ℕ) (word : Word) : Type 0 where
  pub there : word.place ≡ place
  pub at : word.edge ≡ edge
  pub taken : slice_get entries word.number ≡ Some word.entry
  pub many : word.of ≡ length entries

pub record IsWordOf (edges : List Edge) (lists : List (List ℕ)) (word : Word) : Type 0 where
  pub entries : List ℕ
  pub listed : slice_get edges word.place ≡ Some word.edge
  pub beside : slice_get lists word.place ≡ Some entries
  pub taken : slice_get entries word.number ≡ Some word.entry
  pub many : word.of ≡ length entries

-- all edges with all their entries
pub record AreWordsOf (edges : List Edge) (lists : List (List ℕ)) (words : List Word) : Type 0 where
  pub exact : (word : Word) → In word words ↔ IsWordOf edges lists word
