-- Sizes that numbers of 32 bits can count. No grammar that is read and no sentence is larger.
use Rattle.std.specs.Prelude.{◌^◌, ◌<◌, List}
use Rattle.lfg_terms.specs.declared.grammar.Item.{Item}
use Rattle.lfg_terms.specs.declared.grammar.Rule.{Rule}
use Rattle.lfg_terms.specs.declared.grammar.Lex.{Lex}
use Rattle.lfg_terms.specs.declared.grammar.Grammar.{Grammar}
use Rattle.lfg_model.specs.Lists.{In}
use Rattle.lfg_model.specs.Terms.{annotation_of, Tree}
use Rattle.lfg_model.specs.Places.{form_count}
use Rattle.lfg_model.specs.Trees.{width}

-- the forms of each item's annotation can be counted
abbrev pub ItemsFit : List Item → Type 0
ItemsFit items = (item : Item) → In item items → form_count (annotation_of item.schemata) < 2 ^ 32

-- the forms of each annotation of the grammar can be counted
pub record FormsFit (g : Grammar) : Type 0 where
  pub items : (rule : Rule) → In rule g.rules → ItemsFit rule.items
  pub entries : (lex : Lex) → In lex g.lexicon → form_count (annotation_of lex.schemata) < 2 ^ 32

-- so can they, and the tokens that the tree covers
pub record Fits (g : Grammar) (d : Tree) : Type 0 where
  pub tokens : width d < 2 ^ 32
  pub forms : FormsFit g
