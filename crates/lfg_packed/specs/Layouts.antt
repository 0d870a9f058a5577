-- What is written down of a sentence's chart: its edges, its points with the ways to go on, and its
-- lexical edges with their entries. The laws say what an assignment picks in it.
use Rattle.std.specs.Prelude.{◌≡◌, ◌↔◌, ℕ, List, [], ◌∷◌, map, cond}
use Rattle.std.specs.Ordering.{eq_by_cmp}
use Rattle.lfg_terms.specs.Order.{edge_cmp}
use Rattle.lfg_terms.specs.declared.node.Edge.{Edge}
use Rattle.lfg_terms.specs.declared.grammar.Grammar.{Grammar}
use Rattle.lfg_terms.specs.declared.tree.TokenForms.{TokenForms}
use Rattle.lfg_context.specs.Sets.{Assignment}
use Rattle.lfg_model.specs.Charts.{Fork, IsChart}
use Rattle.lfg_model.specs.Derive.{Whole}
use Rattle.lfg_model.specs.Lists.{In}
use Rattle.lfg_model.specs.Loaded.{Loaded}
use Rattle.lfg_model.specs.Spots.{AnEdge, Stands}
use Rattle.lfg_model.specs.Terms.{Tree}
use Rattle.lfg_packed.specs.Words.{AreEntries}
use Rattle.lfg_packed.specs.Choices.{PlacedChoice, AreChoices}
use Rattle.lfg_packed.specs.Assignments.{IsPickedBy}

-- the entries at an edge, none where it is not there
abbrev pub entries_at : List (Edge × List ℕ) → Edge → List ℕ
entries_at [] e = []
entries_at (word ∷ words) e = cond (eq_by_cmp edge_cmp word.0 e) word.1 (entries_at words e)

-- each edge of a whole derivation stands with the entries that whole derivations take there
pub record AreWords (g : Grammar) (s : List TokenForms) (edges : List Edge) (words : List (Edge × List ℕ)) : Type 0 where
  pub beside : map (λ w. w.0) words ≡ edges
  pub each : (w : Edge × List ℕ) → In w words → AreEntries g s w.0 w.1

-- Law: an assignment of a sentence's choices picks one derivation at most, and one where the
-- sentence has any.
abbrev pub OneIsPickedBy : Type 0
OneIsPickedBy =
    (g : Grammar) (s : List TokenForms) (cs : List PlacedChoice) (a : Assignment) → Loaded g → AreChoices g s cs
    → (edges : List Edge) (forks : List Fork) → IsChart g s edges forks → (words : List (Edge × List ℕ)) → AreWords g s edges words
    → (d d' : Tree) → IsPickedBy g s cs a d → IsPickedBy g s cs a d' → d ≡ d'

abbrev pub SomeIsPickedBy : Type 0
SomeIsPickedBy =
    (g : Grammar) (s : List TokenForms) (cs : List PlacedChoice) (a : Assignment) → Loaded g → AreChoices g s cs
    → (edges : List Edge) (forks : List Fork) → IsChart g s edges forks → (words : List (Edge × List ℕ)) → AreWords g s edges words
    → (d : Tree) → Whole g s d → (picked : Tree) × IsPickedBy g s cs a picked
