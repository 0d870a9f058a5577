-- How large the packed parse of a sentence is, as the limit on facts is tested against it.
use Rattle.std.specs.Prelude.{◌≡◌, ℕ, ◌<◌, max, List, length}
use Rattle.lfg_terms.specs.Order.{fact_cmp}
use Rattle.lfg_terms.specs.declared.node.Fact.{Fact}
use Rattle.lfg_terms.specs.declared.grammar.Grammar.{Grammar}
use Rattle.lfg_terms.specs.declared.tree.TokenForms.{TokenForms}
use Rattle.lfg_model.specs.Lists.{Lists}
use Rattle.lfg_model.specs.Terms.{Tree}
use Rattle.lfg_model.specs.Readings.{solution_of, Assigned, IsFact}
use Rattle.lfg_packed.specs.Counts.{IsInstanceCount}

-- some derivation that the grammar assigns to the sentence has the fact in its f-structure
pub record IsReadingFact (g : Grammar) (s : List TokenForms) (f : Fact) : Type 0 where
  pub derivation : Tree
  pub assigned : Assigned g s derivation
  pub fact : IsFact (solution_of g derivation) f

-- The greater of two: the instance count, and the number of different facts that the f-structures of
-- all readings have.
pub record IsParseCount (g : Grammar) (s : List TokenForms) (n : ℕ) : Type 0 where
  pub instances : ℕ
  pub counted : IsInstanceCount g s instances
  pub facts : List Fact
  pub are_facts : Lists fact_cmp (IsReadingFact g s) facts
  pub is : n ≡ max instances (length facts)

-- The parse count is above this number: the instance count is, or the number of the different facts.
pub data IsParseAbove (g : Grammar) (s : List TokenForms) (most : ℕ) : Type 0 where
  by_instances : {n : ℕ} → IsInstanceCount g s n → most < n → IsParseAbove g s most
  by_facts : {facts : List Fact} → Lists fact_cmp (IsReadingFact g s) facts → most < length facts → IsParseAbove g s most
