use Rattle.std.proofs.Common.{arith}
use Rattle.lfg_context.proofs.Growing.{made_grown, grown_trans, same_picks_trans}
use Rattle.lfg_unify.proofs.MarkLaws.{marks_more}
use Rattle.lfg_unify.proofs.collect.mark.Goals as goal

pub loop-node-preserved : goal.loop-node-preserved
loop-node-preserved c =
    let inv = c.loop-node.invariant in
    let step = c.in_ok-mark_one.ensures in
    record {
      grown = grown_trans inv.grown step.grown;
      picks = same_picks_trans inv.picks step.picks;
      ascends = step.ascends;
      row = step.row;
      marks = marks_more c.args.nodes.now c.args.found.now c.loop-node.node-index c.node-item.result c.args.ctx.now c.args.row.now.items c.loop-node.row.items c.mark_one.new.row.items
          (omega arith) c.node-item.is inv.marks step.marks;
    }
