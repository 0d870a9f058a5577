-- The literals of one annotation of a derivation: of an item of a rule, and of a word.
use Rattle.std.specs.Prelude.{ℕ, List, slice_get}
use Rattle.lfg_terms.specs.declared.node.Edge.{Edge}
use Rattle.lfg_terms.specs.declared.literal.Site.TheVariants as site
use Rattle.lfg_terms.specs.declared.literal.Literal.{Literal}
use Rattle.lfg_terms.specs.declared.grammar.Item.{Item}
use Rattle.lfg_terms.specs.declared.grammar.Grammar.{Grammar}
use Rattle.lfg_model.specs.Resolve.{resolved}
use Rattle.lfg_model.specs.Derive.{item_at}
use Rattle.lfg_model.specs.Trees.{item_annotation, entry_annotation}

-- of the item of a mother's rule with this number, over the tokens from `at` to `to`; `down` is the
-- edge of `!`
abbrev pub item_literals : List Item → Edge → Edge → ℕ → List ℕ → ℕ → ℕ → List Literal
item_literals items mother down occ picks at to =
    resolved (record { up = mother; down = down; site = site.Item mother occ at to }) (item_annotation (item_at items occ)) picks 0

-- of the word with this edge
abbrev pub word_literals : Grammar → Edge → ℕ → List ℕ → List Literal
word_literals g own entry picks =
    resolved (record { up = own; down = own; site = site.Entry own entry }) (entry_annotation (slice_get g.lexicon entry)) picks 0
