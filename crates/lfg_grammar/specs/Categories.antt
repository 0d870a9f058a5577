-- The categories of a grammar as they come.
use Rattle.std.specs.Prelude.{List, ◌∷◌, ◌++◌, map, option_to_list}
use Rattle.std.specs.List.{flat_map}
use Rattle.lfg_terms.specs.declared.grammar.Item.{Item}
use Rattle.lfg_terms.specs.declared.grammar.Lex.{Lex}
use Rattle.lfg_terms.specs.declared.grammar.Rule.{Rule}
use Rattle.lfg_model.specs.Terms.{Name}

-- the category of an item, if it has one
abbrev pub item_cats : Item → List Name
item_cats i = option_to_list i.cat

-- the category of a rule and those of its items
abbrev pub rule_cats : Rule → List Name
rule_cats r = r.cat ∷ flat_map item_cats r.items

-- the categories of words
abbrev pub word_cats : List Lex → List Name
word_cats lexicon = map (λ x. x.cat) lexicon

-- the root, then the categories of the rules, then those of the words
abbrev pub all_cats : Name → List Rule → List Lex → List Name
all_cats root rules lexicon = root ∷ (flat_map rule_cats rules ++ word_cats lexicon)
