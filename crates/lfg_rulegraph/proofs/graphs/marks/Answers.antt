use Rattle.std.proofs.Common.{rules, arith}
use Rattle.lfg_model.proofs.ListLaws.{In-at}
use Rattle.lfg_rulegraph.proofs.FollowerLaws.{marks_more}
use Rattle.lfg_rulegraph.proofs.graphs.marks.Goals as goal

pub overflow_sub-item : goal.overflow_sub-item
overflow_sub-item c = (c.requires _ (In-at c.args.items.now c.loop-item.item-index 0 c.loop-item-test.true)).0

pub index_mut-requires : goal.index_mut-requires
index_mut-requires c =
    let r = c.requires _ (In-at c.args.items.now c.loop-item.item-index 0 c.loop-item-test.true) in
    omega (arith, r.0, r.1, c.loop-item.invariant.length)

pub loop-item-preserved : goal.loop-item-preserved
loop-item-preserved c =
    let r = c.requires _ (In-at c.args.items.now c.loop-item.item-index 0 c.loop-item-test.true) in
    record {
      length = search rules;
      exact = marks_more c.args.items.now c.loop-item.item-index c.loop-item.marks.items c.loop-item-test.true r.0 (omega (arith, r.1, c.loop-item.invariant.length)) c.loop-item.invariant.exact;
    }
