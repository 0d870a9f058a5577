-- How large a sentence is: the numbers that the limit on facts is tested against.
use Rattle.std.specs.Prelude.{◌≡◌, ℕ, max, List, length}
use Rattle.std.specs.List.{sum_by}
use Rattle.lfg_terms.specs.Order.{fact_cmp}
use Rattle.lfg_terms.specs.declared.node.Fact.{Fact}
use Rattle.lfg_terms.specs.declared.literal.Site.{Site}
use Rattle.lfg_terms.specs.declared.grammar.Grammar.{Grammar}
use Rattle.lfg_terms.specs.declared.tree.TokenForms.{TokenForms}
use Rattle.lfg_model.specs.Lists.{In, Once, Lists}
use Rattle.lfg_model.specs.Spots.{Spot, Stands}
use Rattle.lfg_packed.specs.Sizes.{literal_size}
use Rattle.lfg_packed.specs.Choices.{IsSite, annotation_at, PlacedChoice, AreChoices}
use Rattle.lfg_packed.specs.SpotFacts.{spot_facts}
use Rattle.std.specs.Prelude.{◌↔◌}

-- the items and entries of whole derivations, each once
pub record AreSites (g : Grammar) (s : List TokenForms) (sites : List Site) : Type 0 where
  pub once : Once sites
  pub exact : (at : Site) → In at sites ↔ IsSite g s at

-- the number of literals that the items and entries of whole derivations give over all their picks
pub record IsLiteralCount (g : Grammar) (s : List TokenForms) (n : ℕ) : Type 0 where
  pub sites : List Site
  pub all : AreSites g s sites
  pub sum : n ≡ sum_by (λ at. literal_size (annotation_at g at)) sites

-- some whole derivation has the fact in its tree
abbrev pub IsTreeFact : Grammar → List TokenForms → Fact → Type 0
IsTreeFact g s f = (x : Spot) × Stands g s x × In f (spot_facts g s x)

-- The greatest of three: the number of literals, of choices, and of tree facts of whole derivations.
pub record IsInstanceCount (g : Grammar) (s : List TokenForms) (n : ℕ) : Type 0 where
  pub literals : ℕ
  pub counted : IsLiteralCount g s literals
  pub choices : List PlacedChoice
  pub are_choices : AreChoices g s choices
  pub facts : List Fact
  pub are_facts : Lists fact_cmp (IsTreeFact g s) facts
  pub is : n ≡ max literals (max (length choices) (length facts))
