use Rattle.std.proofs.Common.{arith}
use Rattle.lfg_packed.proofs.Listing.{get_In}
use Rattle.lfg_instant.proofs.CollectLaws.{place_is}
use Rattle.lfg_instant.proofs.picks.push_choices.Goals as goal

pub push-requires-clause-two : goal.push-requires-clause-two
push-requires-clause-two c =
    let js = c.args.junctions.now in
    let m = c.loop-junction.junction-index in
    let j = c.junction-item.result in
    c.requires.two j (get_In js m j (place_is js m j (omega arith) c.junction-item.is))
