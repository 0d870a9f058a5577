use Rattle.std.proofs.Common.{◌≡◌, ◌++◌, take}
use Rattle.std.specs.List.{flat_map}
use Rattle.lfg_grammar.specs.Categories.{item_cats}
use Rattle.lfg_grammar.proofs.categories.push_items.Given as goal

abbrev pub invariant-loop-item : goal.invariant-loop-item
invariant-loop-item l = l.cats.items ≡ l.fn.cats.items ++ flat_map item_cats (take l.item-index l.items)
