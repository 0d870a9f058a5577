-- What whole derivations have, said without a derivation: first what can be derived, from the words
-- up, then what of it the root is built from.
use Rattle.std.specs.Prelude.{◌≡◌, ◌↔◌, ℕ, ◌+◌, ◌≤◌, Some, None, List, length, slice_get}
use Rattle.lfg_terms.specs.declared.node.Edge.{Edge}
use Rattle.lfg_terms.specs.declared.literal.Site.TheVariants as site
use Rattle.lfg_terms.specs.declared.grammar.Item.{Item}
use Rattle.lfg_terms.specs.declared.grammar.Rule.{Rule}
use Rattle.lfg_terms.specs.declared.grammar.Lex.{Lex}
use Rattle.lfg_terms.specs.declared.grammar.Grammar.{Grammar}
use Rattle.lfg_terms.specs.declared.tree.TokenForms.{TokenForms}
use Rattle.lfg_model.specs.declared.point.Next.TheVariants as next
use Rattle.lfg_model.specs.Lists.{In}
use Rattle.lfg_model.specs.Terms.{Name, annotation_of, Tree}
use Rattle.lfg_model.specs.Places.{places, PicksFit}
use Rattle.lfg_model.specs.Derive.{rule_of, item_at, CanFollow, CanEnd, edge, Derives}
use Rattle.lfg_model.specs.Spots.{point, Spot, AnEdge, AStep, AWord, APick, Stands}

-- some tree derives the edge
pub record Derivable (g : Grammar) (s : List TokenForms) (e : Edge) : Type 0 where
  pub tree : Tree
  pub derives : Derives g s tree e

-- An item of the rule covers the tokens from a place to a place: `e` none, a category those of an
-- edge that can be derived.
pub data Crosses (g : Grammar) (s : List TokenForms) (rule : Rule) (occ : ℕ) : ℕ → ℕ → Type 0 where
  by_none : {at : ℕ} (item : Item) → item_at rule.items occ ≡ Some item → item.cat ≡ None → Crosses g s rule occ at at
  by_edge : {at mid : ℕ} (item : Item) (cat : Name) → item_at rule.items occ ≡ Some item → item.cat ≡ Some cat → Derivable g s (edge cat at mid) → Crosses g s rule occ at mid

-- Items of the rule that follow each other from its start, up to this one, cover the tokens from
-- `start` to the place. Item 0 is the start itself.
pub data Reaches (g : Grammar) (s : List TokenForms) (rule : Rule) (start : ℕ) : ℕ → ℕ → Type 0 where
  at_start : Reaches g s rule start 0 start
  go_on : {q at mid : ℕ} (p : ℕ) → Reaches g s rule start q at → CanFollow rule.graph q p → Crosses g s rule p at mid → Reaches g s rule start p mid

-- Items of the rule that follow this one, up to an end of the rule, cover the tokens from the place
-- to `end`.
pub data Ends (g : Grammar) (s : List TokenForms) (rule : Rule) (end : ℕ) : ℕ → ℕ → Type 0 where
  at_end : {q : ℕ} → CanEnd rule.graph q → Ends g s rule end q end
  before : {q at mid : ℕ} (p : ℕ) → CanFollow rule.graph q p → Crosses g s rule p at mid → Ends g s rule end p mid → Ends g s rule end q at

-- The edge is the root's over all tokens, or it stands as a daughter in what a kept edge can be
-- built from.
pub data Kept (g : Grammar) (s : List TokenForms) : Edge → Type 0 where
  as_root : 1 ≤ length s → Derivable g s (edge g.root 0 (length s)) → Kept g s (edge g.root 0 (length s))
  as_daughter : {e : Edge} {q at mid : ℕ} (rule : Rule) (p : ℕ) (item : Item) (cat : Name) → Kept g s e → rule_of g e.cat ≡ Some rule
      → Reaches g s rule e.from q at → CanFollow rule.graph q p → item_at rule.items p ≡ Some item → item.cat ≡ Some cat
      → Derivable g s (edge cat at mid) → Ends g s rule e.to p mid → Kept g s (edge cat at mid)

-- The lexicon entry has the edge's category, and the edge's token, its only one, has the entry's
-- form.
pub record IsEntry (g : Grammar) (s : List TokenForms) (e : Edge) (entry : ℕ) : Type 0 where
  pub lex : Lex
  pub listed : slice_get g.lexicon entry ≡ Some lex
  pub category : lex.cat ≡ e.cat
  pub token : TokenForms
  pub read : slice_get s e.from ≡ Some token
  pub offered : In lex.form token.forms
  pub one_token : e.to ≡ e.from + 1

-- An edge is kept. An entry is one for a kept edge. A step goes from an item that is reached in a
-- kept edge over an item behind which the rule can end there, or to the end of the rule. Picks fit
-- the annotation of such an item or entry.
pub data KeptSpot (g : Grammar) (s : List TokenForms) : Spot → Type 0 where
  an_edge : {e : Edge} → Kept g s e → KeptSpot g s (AnEdge e)
  a_word : {e : Edge} {k : ℕ} → Kept g s e → IsEntry g s e k → KeptSpot g s (AWord e k)
  a_step : {e : Edge} {q at mid : ℕ} (rule : Rule) (p : ℕ) → Kept g s e → rule_of g e.cat ≡ Some rule
      → Reaches g s rule e.from q at → CanFollow rule.graph q p → Crosses g s rule p at mid → Ends g s rule e.to p mid
      → KeptSpot g s (AStep (point e q at) (next.Item p mid))
  an_end : {e : Edge} {q : ℕ} (rule : Rule) → Kept g s e → rule_of g e.cat ≡ Some rule
      → Reaches g s rule e.from q e.to → CanEnd rule.graph q → KeptSpot g s (AStep (point e q e.to) next.End)
  item_pick : {e : Edge} {q at mid : ℕ} {picks : List ℕ} (rule : Rule) (p : ℕ) (item : Item) → Kept g s e → rule_of g e.cat ≡ Some rule
      → Reaches g s rule e.from q at → CanFollow rule.graph q p → Crosses g s rule p at mid → Ends g s rule e.to p mid
      → item_at rule.items p ≡ Some item → PicksFit picks (places (annotation_of item.schemata))
      → KeptSpot g s (APick (site.Item e p at mid) picks)
  entry_pick : {e : Edge} {k : ℕ} {picks : List ℕ} (lex : Lex) → Kept g s e → IsEntry g s e k
      → slice_get g.lexicon k ≡ Some lex → PicksFit picks (places (annotation_of lex.schemata)) → KeptSpot g s (APick (site.Entry e k) picks)

-- each annotation of the grammar has picks that fit it
pub record IsFillable (g : Grammar) : Type 0 where
  pub items : (cat : Name) (rule : Rule) (occ : ℕ) (item : Item) → rule_of g cat ≡ Some rule → item_at rule.items occ ≡ Some item
      → (picks : List ℕ) × PicksFit picks (places (annotation_of item.schemata))
  pub entries : (k : ℕ) (lex : Lex) → slice_get g.lexicon k ≡ Some lex → (picks : List ℕ) × PicksFit picks (places (annotation_of lex.schemata))

-- Law: then what is kept is what some whole derivation has.
abbrev pub KeptIsStanding : Type 0
KeptIsStanding = (g : Grammar) (s : List TokenForms) → IsFillable g → (x : Spot) → KeptSpot g s x ↔ Stands g s x
