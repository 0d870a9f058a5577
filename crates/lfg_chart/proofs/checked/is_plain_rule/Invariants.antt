use Rattle.std.proofs.Common.{take}
use Rattle.lfg_model.specs.Lists.{In}
use Rattle.lfg_terms.specs.declared.grammar.Item.{Item}
use Rattle.lfg_chart.specs.Checked.{IsPlainItem}
use Rattle.lfg_chart.proofs.checked.is_plain_rule.Given as goal

abbrev pub invariant-loop-item : goal.invariant-loop-item
invariant-loop-item l = (item : Item) → In item (take l.item-index l.items) → IsPlainItem l.cats item
