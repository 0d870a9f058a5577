use Rattle.lfg_model.specs.Thin.{item_of}
use Rattle.xle_run.specs.Drafts.{daughter_view}
use Rattle.xle_run.proofs.Places.{collected}
use Rattle.xle_run.proofs.thin.grammar.items_of.Goals as goal

pub loop-daughter-preserved : goal.loop-daughter-preserved
loop-daughter-preserved c =
    collected item_of daughter_view c.args.daughters.now c.loop-daughter.daughter-index c.daughter-item.result c.loop-daughter.items.items c.push.new.self.items c.in_ok-item_of.field-0 c.loop-daughter-test.true c.daughter-item.is c.loop-daughter.invariant c.in_ok-item_of.ensures c.in_ok-push.ensures.items
