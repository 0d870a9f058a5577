use Rattle.std.proofs.Common.{◌<◌, length, arith}
use Rattle.lfg_context.proofs.Growing.{grown_trans, same_picks_trans, are_made_grown, made_at}
use Rattle.lfg_context.proofs.Telling.{in_more}
use Rattle.lfg_unify.specs.Clashes.{Differs, IsBeside, Clashes}
use Rattle.lfg_unify.proofs.clash.with_values.Goals as goal

pub differing-requires-clause-made : goal.differing-requires-clause-made
differing-requires-clause-made c = made_at c.loop-second.second-index c.second-item.result (are_made_grown c.loop-second.invariant.grown c.requires.made) (omega arith) c.second-item.is

pub loop-second-preserved : goal.loop-second-preserved
loop-second-preserved c = record {
  grown = grown_trans (grown_trans c.loop-second.invariant.grown c.in_ok-one.ensures.grown) c.in_ok-found.ensures.grown;
  picks = same_picks_trans (same_picks_trans c.loop-second.invariant.picks c.in_ok-one.ensures.picks) c.in_ok-found.ensures.picks;
  made = c.in_ok-found.ensures.ok.made;
  tells = in_more (Differs c.args.table.now c.args.first.now) c.args.values.now c.loop-second.second-index c.second-item.result (omega arith) c.second-item.is
      c.loop-second.invariant.tells c.in_ok-one.ensures.tells c.in_ok-found.ensures.ok.members;
}
