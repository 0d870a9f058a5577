-- Assignments of a sentence's choices and its derivations: none is left out.
use Rattle.std.specs.Prelude.{List}
use Rattle.lfg_terms.specs.declared.node.Edge.{Edge}
use Rattle.lfg_terms.specs.declared.grammar.Grammar.{Grammar}
use Rattle.lfg_terms.specs.declared.tree.TokenForms.{TokenForms}
use Rattle.lfg_context.specs.Sets.{Assignment}
use Rattle.lfg_model.specs.Charts.{Fork, IsChart}
use Rattle.lfg_model.specs.Derive.{Whole}
use Rattle.lfg_model.specs.Loaded.{Loaded}
use Rattle.lfg_model.specs.Terms.{Tree}
use Rattle.lfg_packed.specs.Assignments.{IsPickedBy}
use Rattle.lfg_packed.specs.Choices.{PlacedChoice, AreChoices}

-- Law: each whole derivation of a sentence is picked by some assignment of the sentence's choices.
abbrev pub AllArePicked : Type 0
AllArePicked =
    (g : Grammar) (s : List TokenForms) (cs : List PlacedChoice) → Loaded g → AreChoices g s cs
    → (edges : List Edge) (forks : List Fork) → IsChart g s edges forks
    → (d : Tree) → Whole g s d → (a : Assignment) × IsPickedBy g s cs a d
