-- What the literals and tree facts of a sentence, each in its context, say of the derivations that
-- assignments pick, and when there are too many of them.
use Rattle.std.specs.Prelude.{◌≡◌, ◌↔◌, ℕ, ◌+◌, ◌<◌, ◌≤◌, List, [], map}
use Rattle.std.specs.List.Sorted.{IsPermutation}
use Rattle.lfg_terms.specs.Order.{fact_cmp}
use Rattle.lfg_terms.specs.declared.choice.Choice.{Choice}
use Rattle.lfg_terms.specs.declared.node.Fact.{Fact}
use Rattle.lfg_terms.specs.declared.literal.Literal.{Literal}
use Rattle.lfg_terms.specs.declared.grammar.Grammar.{Grammar}
use Rattle.lfg_terms.specs.declared.tree.TokenForms.{TokenForms}
use Rattle.lfg_context.specs.Seen.{Set}
use Rattle.lfg_context.specs.Sets.{Assignment}
use Rattle.lfg_model.specs.Derive.{Whole}
use Rattle.lfg_model.specs.Lists.{In, Lists}
use Rattle.lfg_model.specs.Terms.{Tree}
use Rattle.lfg_model.specs.Trees.{literals, tree_facts}
use Rattle.lfg_packed.specs.Assignments.{IsPickedBy}
use Rattle.lfg_packed.specs.Choices.{PlacedChoice, AreChoices, choice_of}
use Rattle.lfg_packed.specs.Counts.{IsLiteralCount, IsTreeFact, IsInstanceCount}
use Rattle.lfg_instant.specs.Holding.{holding}
use Rattle.lfg_instant.specs.declared.fault.InstantFault.{InstantFault}
use Rattle.lfg_instant.specs.declared.fault.InstantFault.TheVariants as fault

-- the sentence has no whole derivation
abbrev pub HasNoDerivation : Grammar → List TokenForms → Type 0
HasNoDerivation g s = (d : Tree) → Whole g s d → ⊥

-- the choices of the space are those of the sentence, in order
pub record AreSpaceOf (g : Grammar) (s : List TokenForms) (space : List Choice) : Type 0 where
  pub placed : List PlacedChoice
  pub all : AreChoices g s placed
  pub is : space ≡ map choice_of placed

-- The literals whose set has an assignment of the sentence's choices are those of the derivation that
-- it picks, each as often as there; and none are where the sentence has no derivation.
pub record AreLiteralsOf (g : Grammar) (s : List TokenForms) (list : List (Literal × Set)) : Type 0 where
  pub picked : (cs : List PlacedChoice) (a : Assignment) (d : Tree) → AreChoices g s cs → IsPickedBy g s cs a d → IsPermutation (holding list a) (literals g d 0)
  pub without : HasNoDerivation g s → (a : Assignment) → holding list a ≡ []

-- The facts are those of the trees of whole derivations, in order, each once. Those whose set has an
-- assignment of the sentence's choices are those of the tree that it picks; and none are where the
-- sentence has no derivation.
pub record AreFactsOf (g : Grammar) (s : List TokenForms) (list : List (Fact × Set)) : Type 0 where
  pub all : Lists fact_cmp (IsTreeFact g s) (map (λ x. x.0) list)
  pub picked : (cs : List PlacedChoice) (a : Assignment) (d : Tree) → AreChoices g s cs → IsPickedBy g s cs a d → (f : Fact) → In f (holding list a) ↔ In f (tree_facts s d 0)
  pub without : HasNoDerivation g s → (a : Assignment) → holding list a ≡ []

-- the number of literals, of choices and of tree facts are at most this number
abbrev pub IsWithin : Grammar → List TokenForms → ℕ → Type 0
IsWithin g s most = (n : ℕ) × IsInstanceCount g s n × (n ≤ most)

-- one of them is more
abbrev pub IsTooLarge : Grammar → List TokenForms → ℕ → Type 0
IsTooLarge g s most = (n : ℕ) × IsInstanceCount g s n × (most < n)

-- The sentence is refused as too large only where it is, with one more than the limit; want of memory
-- may come at any sentence.
abbrev pub IsInstantFault : Grammar → List TokenForms → ℕ → InstantFault → Type 0
IsInstantFault g s most (fault.TooLarge count) = IsTooLarge g s most × (count ≡ most + 1)
IsInstantFault g s most fault.Memory = Unit {0}

-- Law: a sentence has one list of choices, one number of literals, and one greatest of the numbers of
-- its literals, choices and tree facts. So it is not both within a limit and too large.
abbrev pub OneChoiceList : Type 0
OneChoiceList = (g : Grammar) (s : List TokenForms) (cs ds : List PlacedChoice) → AreChoices g s cs → AreChoices g s ds → cs ≡ ds

abbrev pub OneLiteralCount : Type 0
OneLiteralCount = (g : Grammar) (s : List TokenForms) (m n : ℕ) → IsLiteralCount g s m → IsLiteralCount g s n → m ≡ n

abbrev pub OneInstanceCount : Type 0
OneInstanceCount = (g : Grammar) (s : List TokenForms) (m n : ℕ) → IsInstanceCount g s m → IsInstanceCount g s n → m ≡ n
