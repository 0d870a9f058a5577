use Rattle.std.proofs.Common.{◌<◌, length, arith}
use Rattle.lfg_context.proofs.Growing.{grown_trans, same_picks_trans, are_made_grown, made_at}
use Rattle.lfg_context.proofs.Telling.{in_more}
use Rattle.lfg_unify.specs.Clashes.{Differs, IsBeside, Clashes}
use Rattle.lfg_unify.proofs.clash.with_others.Goals as goal

pub together-requires-clause-made : goal.together-requires-clause-made
together-requires-clause-made c = made_at c.loop-other.other-index c.other-item.result (are_made_grown c.loop-other.invariant.grown c.requires.made) (omega arith) c.other-item.is

pub loop-other-preserved : goal.loop-other-preserved
loop-other-preserved c = record {
  grown = grown_trans (grown_trans c.loop-other.invariant.grown c.in_ok-one.ensures.grown) c.in_ok-found.ensures.grown;
  picks = same_picks_trans (same_picks_trans c.loop-other.invariant.picks c.in_ok-one.ensures.picks) c.in_ok-found.ensures.picks;
  made = c.in_ok-found.ensures.ok.made;
  tells = in_more (IsBeside c.args.table.now c.args.first.now) c.args.others.now c.loop-other.other-index c.other-item.result (omega arith) c.other-item.is
      c.loop-other.invariant.tells c.in_ok-one.ensures.tells c.in_ok-found.ensures.ok.members;
}
