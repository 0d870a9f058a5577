use Rattle.std.proofs.Common.{◌≡◌, Some, slice_get}
use Rattle.lfg_packed.proofs.Listing.{get_In}
use Rattle.lfg_instant.proofs.CollectLaws.{place_is}
use Rattle.lfg_instant.proofs.EntryLaws.{lists_more}
use Rattle.lfg_instant.proofs.entries.entry_lists.Goals as goal

pub entry_list-requires-clause-stands : goal.entry_list-requires-clause-stands
entry_list-requires-clause-stands c =
    let there : slice_get c.args.edges.now c.loop-edge.edge-index ≡ Some c.edge-item.result = place_is c.args.edges.now c.loop-edge.edge-index c.edge-item.result c.loop-edge-test.true c.edge-item.is in
    c.requires.stand c.edge-item.result (get_In c.args.edges.now c.loop-edge.edge-index c.edge-item.result there)

pub loop-edge-preserved : goal.loop-edge-preserved
loop-edge-preserved c =
    let there : slice_get c.args.edges.now c.loop-edge.edge-index ≡ Some c.edge-item.result = place_is c.args.edges.now c.loop-edge.edge-index c.edge-item.result c.loop-edge-test.true c.edge-item.is in
    lists_more c.args.grammar.now c.args.tokens.now c.args.edges.now c.loop-edge.edge-index c.loop-edge.lists.items c.push.new.self.items c.edge-item.result c.in_ok-entry_list.field-0
    there c.loop-edge.invariant c.in_ok-entry_list.ensures c.in_ok-push.ensures.items
