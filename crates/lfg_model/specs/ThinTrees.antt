-- Derivations by thin grammars: a sentence has one at most.
use Rattle.std.specs.Prelude.{◌≡◌, ℕ, zero, suc, List, [], ◌∷◌, slice_get, Some}
use Rattle.lfg_terms.specs.declared.grammar.Grammar.{Grammar}
use Rattle.lfg_terms.specs.declared.tree.TokenForms.{TokenForms}
use Rattle.lfg_model.specs.Terms.{Tree}
use Rattle.lfg_model.specs.Derive.{Whole}
use Rattle.lfg_model.specs.Unambiguous.{IsUnambiguous}
use Rattle.lfg_model.specs.Thin.{IsThinGrammar}

-- each token of the sentence has its text as its only form
pub record HaveOwnForms (s : List TokenForms) : Type 0 where
  pub each : (k : ℕ) (t : TokenForms) → slice_get s k ≡ Some t → t.forms ≡ t.text ∷ []

-- the numbers from k on, so many
abbrev pub numbers : ℕ → ℕ → List ℕ
numbers k zero = []
numbers k (suc n) = k ∷ numbers (suc k) n

-- Law: a thin grammar leaves no choice for such a sentence.
abbrev pub ThinLeavesNoChoice : Type 0
ThinLeavesNoChoice = (g : Grammar) (s : List TokenForms) → IsThinGrammar g → HaveOwnForms s → IsUnambiguous g s

-- Law: so the sentence has one derivation at most.
abbrev pub OneThinDerivation : Type 0
OneThinDerivation = (g : Grammar) (s : List TokenForms) → IsThinGrammar g → HaveOwnForms s → (d d' : Tree) → Whole g s d → Whole g s d' → d ≡ d'
