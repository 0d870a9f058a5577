-- Grammars in which a sentence has at most one derivation.
use Rattle.std.specs.Prelude.{◌≡◌, ℕ, List, [], Some, slice_get}
use Rattle.lfg_terms.specs.declared.node.Edge.{Edge}
use Rattle.lfg_terms.specs.declared.grammar.Item.{Item}
use Rattle.lfg_terms.specs.declared.grammar.Rule.{Rule}
use Rattle.lfg_terms.specs.declared.grammar.Lex.{Lex}
use Rattle.lfg_terms.specs.declared.grammar.Grammar.{Grammar}
use Rattle.lfg_terms.specs.declared.tree.TokenForms.{TokenForms}
use Rattle.lfg_model.specs.Lists.{In}
use Rattle.lfg_model.specs.Terms.{Name, annotation_of, Tree}
use Rattle.lfg_model.specs.Places.{places}
use Rattle.lfg_model.specs.Derive.{rule_of, item_at, Walks, Derives}

-- Nothing in the grammar leaves a choice for the sentence: each rule allows one row of items, no
-- annotation has a numbered place, no category has both a rule and an entry, and each token has one
-- entry.
pub record IsUnambiguous (g : Grammar) (s : List TokenForms) : Type 0 where
  pub one_row : (cat : Name) (r : Rule) (v w : List ℕ) → rule_of g cat ≡ Some r → Walks r.graph v → Walks r.graph w → v ≡ w
  pub plain_items : (cat : Name) (r : Rule) (k : ℕ) (i : Item) → rule_of g cat ≡ Some r → item_at r.items k ≡ Some i → places (annotation_of i.schemata) ≡ []
  pub plain_entries : (k : ℕ) (x : Lex) → slice_get g.lexicon k ≡ Some x → places (annotation_of x.schemata) ≡ []
  pub apart : (cat : Name) (r : Rule) (k : ℕ) (x : Lex) → rule_of g cat ≡ Some r → slice_get g.lexicon k ≡ Some x → ¬ (x.cat ≡ cat)
  pub one_entry : (i j k : ℕ) (t : TokenForms) (x y : Lex) → slice_get s i ≡ Some t → slice_get g.lexicon j ≡ Some x → slice_get g.lexicon k ≡ Some y
      → In x.form t.forms → In y.form t.forms → j ≡ k

-- Law: then a category derives one thing at most from a place: one tree, to one end.
abbrev pub OneDerivation : Type 0
OneDerivation =
    (g : Grammar) (s : List TokenForms) → IsUnambiguous g s
    → (d d' : Tree) (e e' : Edge) → Derives g s d e → Derives g s d' e' → e.cat ≡ e'.cat → e.from ≡ e'.from → (d ≡ d') × (e.to ≡ e'.to)
