use Rattle.std.proofs.Common.{◌<◌, length, arith}
use Rattle.lfg_context.proofs.Growing.{grown_trans, same_picks_trans}
use Rattle.lfg_context.proofs.Telling.{in_more}
use Rattle.lfg_constrain.specs.Spots.{IsMet}
use Rattle.lfg_constrain.proofs.Classes.{some_closure_grown, equal_at_result}
use Rattle.lfg_constrain.proofs.SpotLaws.{met_tells, touches_tells}
use Rattle.lfg_constrain.proofs.spots.touched.Goals as goal

pub and-requires-clause-b_made : goal.and-requires-clause-b_made
and-requires-clause-b_made c = equal_at_result c.spot-item.result.0 c.args.place (some_closure_grown c.loop-spot.invariant.grown c.requires.closure) c.equal_at.ensures

pub loop-spot-preserved : goal.loop-spot-preserved
loop-spot-preserved c = record {
  grown = grown_trans (grown_trans c.loop-spot.invariant.grown c.in_ok-one.ensures.grown) c.in_ok-met.ensures.grown;
  picks = same_picks_trans (same_picks_trans c.loop-spot.invariant.picks c.in_ok-one.ensures.picks) c.in_ok-met.ensures.picks;
  made = c.in_ok-met.ensures.ok.made;
  tells = in_more (IsMet c.args.closure.now c.args.place) c.args.spots.now c.loop-spot.spot-index c.spot-item.result (omega arith) c.spot-item.is c.loop-spot.invariant.tells
      (met_tells c.args.closure.now c.args.place c.spot-item.result c.equal_at.result.now c.in_ok-one.one c.equal_at.ensures c.in_ok-one.ensures.ok.members) c.in_ok-met.ensures.ok.members;
}
