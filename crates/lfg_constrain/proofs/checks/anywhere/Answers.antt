use Rattle.std.proofs.Common.{◌<◌, length, arith}
use Rattle.lfg_context.proofs.Growing.{grown_trans, same_picks_trans, are_made_grown, made_at}
use Rattle.lfg_context.proofs.Telling.{in_more, of_more}
use Rattle.lfg_constrain.specs.Checks.{IsOn}
use Rattle.lfg_constrain.proofs.CheckLaws.{on_tells}
use Rattle.lfg_constrain.proofs.checks.anywhere.Goals as goal

pub or-requires-clause-b_made : goal.or-requires-clause-b_made
or-requires-clause-b_made c = made_at c.loop-spot.spot-index c.spot-item.result (are_made_grown c.loop-spot.invariant.grown c.requires.spots) (omega arith) c.spot-item.is

pub loop-spot-preserved : goal.loop-spot-preserved
loop-spot-preserved c = record {
  grown = grown_trans c.loop-spot.invariant.grown c.in_ok-found.ensures.grown;
  picks = same_picks_trans c.loop-spot.invariant.picks c.in_ok-found.ensures.picks;
  made = c.in_ok-found.ensures.ok.made;
  tells = in_more IsOn c.args.spots.now c.loop-spot.spot-index c.spot-item.result (omega arith) c.spot-item.is c.loop-spot.invariant.tells (on_tells c.spot-item.result) c.in_ok-found.ensures.ok.members;
}
