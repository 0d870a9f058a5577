use Rattle.std.proofs.Common.{arith}
use Rattle.lfg_unify.specs.Collected.{placed_in}
use Rattle.lfg_unify.proofs.PlacedLaws.{map_more}
use Rattle.lfg_unify.proofs.closing.placed_values.Goals as goal

pub loop-value-preserved : goal.loop-value-preserved
loop-value-preserved c =
    map_more (placed_in c.args.nodes.now) c.args.values.now c.loop-value.value-index c.value-item.result c.loop-value.placed.items c.push.new.self.items
    ((c.place_or_end-place.result, c.in_ok-constant.constant), c.in_ok-share.field-0) (omega arith) c.value-item.is c.loop-value.invariant c.in_ok-push.ensures.items
    (λ i. ((c.place_or_end-place.ensures i, c.in_ok-constant.ensures i), c.in_ok-share.ensures i))
