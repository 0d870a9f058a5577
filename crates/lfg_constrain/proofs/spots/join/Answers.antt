use Rattle.std.proofs.Common.{◌<◌, length, arith}
use Rattle.lfg_context.proofs.Growing.{grown_trans, same_picks_trans}
use Rattle.lfg_constrain.proofs.SpotLaws.{joins_none, joins_more}
use Rattle.lfg_constrain.proofs.spots.join.Goals as goal

pub loop-spot-preserved : goal.loop-spot-preserved
loop-spot-preserved c = record {
  grown = grown_trans c.loop-spot.invariant.grown c.widen.ensures.grown;
  picks = same_picks_trans c.loop-spot.invariant.picks c.widen.ensures.picks;
  spots = c.in_ok-widen.ensures.spots;
  joins = joins_more c.args.spots.now.items c.args.more.now c.loop-spot.spots.items c.widen.new.spots.items c.loop-spot.spot-index c.spot-item.result (omega arith) c.spot-item.is
      c.loop-spot.invariant.joins c.in_ok-widen.ensures.step;
}
