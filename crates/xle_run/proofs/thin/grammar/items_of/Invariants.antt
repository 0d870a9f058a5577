use Rattle.std.proofs.Common.{◌≡◌, map, take}
use Rattle.lfg_model.specs.Thin.{item_of}
use Rattle.xle_run.specs.Drafts.{daughter_view}
use Rattle.xle_run.proofs.thin.grammar.items_of.Given as goal

abbrev pub invariant-loop-daughter : goal.invariant-loop-daughter
invariant-loop-daughter l = l.items.items ≡ map item_of (map daughter_view (take l.daughter-index l.daughters))
