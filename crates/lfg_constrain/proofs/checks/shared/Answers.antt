use Rattle.std.proofs.Common.{◌<◌, length, arith}
use Rattle.lfg_context.proofs.Growing.{grown_trans, same_picks_trans}
use Rattle.lfg_context.proofs.Telling.{in_more}
use Rattle.lfg_constrain.specs.Checks.{IsShared}
use Rattle.lfg_constrain.proofs.CheckLaws.{shared_tells}
use Rattle.lfg_constrain.proofs.checks.shared.Goals as goal

pub loop-spot-preserved : goal.loop-spot-preserved
loop-spot-preserved c = record {
  grown = grown_trans (grown_trans c.loop-spot.invariant.grown c.in_ok-one.ensures.grown) c.in_ok-found.ensures.grown;
  picks = same_picks_trans (same_picks_trans c.loop-spot.invariant.picks c.in_ok-one.ensures.picks) c.in_ok-found.ensures.picks;
  made = c.in_ok-found.ensures.ok.made;
  tells = in_more (IsShared c.args.closure.now c.args.left.now) c.args.right.now c.loop-spot.spot-index c.spot-item.result (omega arith) c.spot-item.is c.loop-spot.invariant.tells
      (shared_tells c.args.closure.now c.args.left.now c.spot-item.result c.in_ok-one.one c.in_ok-one.ensures.tells) c.in_ok-found.ensures.ok.members;
}
