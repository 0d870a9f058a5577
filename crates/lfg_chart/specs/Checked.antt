-- Grammars without annotations, for tests.
use Rattle.std.specs.Prelude.{◌≡◌, Some, List, []}
use Rattle.lfg_terms.specs.declared.grammar.Item.{Item}
use Rattle.lfg_terms.specs.declared.grammar.Rule.{Rule}
use Rattle.lfg_model.specs.Lists.{In}
use Rattle.lfg_model.specs.Terms.{Name}
use Rattle.lfg_chart.specs.Numbers.{IsRuleOver}

-- the item's category is known, and its annotation says nothing
pub record IsPlainItem (cats : List Name) (item : Item) : Type 0 where
  pub known : (cat : Name) → item.cat ≡ Some cat → In cat cats
  pub plain : item.schemata ≡ []

-- the rule is one over these categories, and its annotations say nothing
pub record IsPlainRule (cats : List Name) (rule : Rule) : Type 0 where
  pub over : IsRuleOver cats rule
  pub plain : (item : Item) → In item rule.items → item.schemata ≡ []
