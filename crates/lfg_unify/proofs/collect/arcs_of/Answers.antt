use Rattle.std.proofs.Common.{rules, arith, ◌<◌}
use Rattle.lfg_unify.proofs.SweepLaws.{ascends_entry}
use Rattle.lfg_unify.proofs.MarkLaws.{arcs_more}
use Rattle.std.proofs.Common.{length}
use Rattle.lfg_unify.proofs.collect.arcs_of.Goals as goal

pub bounds-nodes-entry : goal.bounds-nodes-entry
bounds-nodes-entry c = ascends_entry (length c.args.nodes.now) 0 c.args.row.now c.loop-entry.entry-index c.entry-item.result c.requires.ascends (omega arith) c.entry-item.is

pub offset_bounds-nodes-entry : goal.offset_bounds-nodes-entry
offset_bounds-nodes-entry c =
    let b : c.entry-item.result.0 < length c.args.nodes.now = ascends_entry (length c.args.nodes.now) 0 c.args.row.now c.loop-entry.entry-index c.entry-item.result c.requires.ascends (omega arith) c.entry-item.is in
    search rules

pub loop-entry-preserved : goal.loop-entry-preserved
loop-entry-preserved c =
    arcs_more c.args.nodes.now c.args.row.now c.loop-entry.entry-index c.entry-item.result c.index-nodes-entry.result c.loop-entry.arcs.items c.push_arc.new.arcs.items (omega arith) c.entry-item.is
    c.requires.sorted (ascends_entry (length c.args.nodes.now) 0 c.args.row.now c.loop-entry.entry-index c.entry-item.result c.requires.ascends (omega arith) c.entry-item.is)
    c.index-nodes-entry.is c.loop-entry.invariant c.in_ok-push_arc.ensures.sound c.in_ok-push_arc.ensures.keeps c.in_ok-push_arc.ensures.has
