use Rattle.std.proofs.Common.{take}
use Rattle.lfg_model.specs.Loads.{LoadsItem, all_items_of}
use Rattle.lfg_model.specs.RightSides.{right_sides_of}
use Rattle.lfg_model.specs.Templates.{Each}
use Rattle.lfg_grammar.proofs.items.+items.Given as goal

abbrev pub invariant-load_all_items-loop-side : goal.invariant-load_all_items-loop-side
invariant-load_all_items-loop-side l = Each (LoadsItem l.depth) (all_items_of (right_sides_of (take l.side-index l.sides))) l.items.items
