use Rattle.std.proofs.Common.{◌<◌, length, rules, arith}
use Rattle.lfg_context.proofs.Growing.{grown_trans, same_picks_trans, are_made_grown}
use Rattle.lfg_facts.proofs.RowLaws.{ascends_entry}
use Rattle.lfg_facts.proofs.NameLaws.{nodes_more, before_more}
use Rattle.lfg_facts.proofs.names.push_nodes.Goals as goal

pub bounds-nodes-entry : goal.bounds-nodes-entry
bounds-nodes-entry c = ascends_entry (length c.args.nodes.now) 0 c.args.row.now c.loop-entry.entry-index c.entry-item.result c.requires.ascends (omega arith) c.entry-item.is

pub offset_bounds-nodes-entry : goal.offset_bounds-nodes-entry
offset_bounds-nodes-entry c =
    let b : c.entry-item.result.0 < length c.args.nodes.now = ascends_entry (length c.args.nodes.now) 0 c.args.row.now c.loop-entry.entry-index c.entry-item.result c.requires.ascends (omega arith) c.entry-item.is in
    search rules

pub loop-entry-preserved : goal.loop-entry-preserved
loop-entry-preserved c =
    let inv = c.loop-entry.invariant in
    let n = c.loop-entry.entry-index in
    let d = c.entry-item.result in
    let within : d.0 < length c.args.nodes.now = ascends_entry (length c.args.nodes.now) 0 c.args.row.now n d c.requires.ascends (omega arith) c.entry-item.is in
    record {
      grown = grown_trans (grown_trans inv.grown c.in_ok-first.ensures.grown) c.in_ok-before-2.ensures.grown;
      picks = same_picks_trans (same_picks_trans inv.picks c.in_ok-first.ensures.picks) c.in_ok-before-2.ensures.picks;
      made = are_made_grown c.in_ok-before-2.ensures.grown c.in_ok-push_node.ensures.names;
      before_made = c.in_ok-before-2.ensures.ok.made;
      before = before_more c.args.valued.now c.loop-entry.before c.in_ok-before-2.before c.args.row.now n d (omega arith) c.entry-item.is inv.before c.in_ok-before-2.ensures.ok.members;
      adds = nodes_more c.args.nodes.now c.args.row.now c.args.valued.now c.loop-entry.before c.in_ok-first.first c.args.names.now.items c.loop-entry.names.items c.push_node.new.names.items n d c.index-nodes-entry.result
          (omega arith) c.entry-item.is c.requires.ascends within c.index-nodes-entry.is inv.before c.in_ok-first.ensures.ok.members inv.adds c.in_ok-push_node.ensures.adds;
    }
