use Rattle.std.proofs.Common.{◌<◌, length, arith}
use Rattle.lfg_context.proofs.Growing.{grown_trans, same_picks_trans, are_made_grown, made_at}
use Rattle.lfg_context.proofs.Telling.{in_more}
use Rattle.lfg_unify.specs.Clashes.{Differs, IsBeside, Clashes, Placed}
use Rattle.lfg_unify.proofs.SettleLaws.{within_at}
use Rattle.lfg_unify.proofs.clash.clash.Goals as goal

pub clash_of-requires-clause-first_made : goal.clash_of-requires-clause-first_made
clash_of-requires-clause-first_made c = made_at c.loop-first.first-index c.first-item.result (are_made_grown c.loop-first.invariant.grown c.requires.made) (omega arith) c.first-item.is

pub loop-first-preserved : goal.loop-first-preserved
loop-first-preserved c = record {
  grown = grown_trans (grown_trans c.loop-first.invariant.grown c.in_ok-one.ensures.grown) c.in_ok-found.ensures.grown;
  picks = same_picks_trans (same_picks_trans c.loop-first.invariant.picks c.in_ok-one.ensures.picks) c.in_ok-found.ensures.picks;
  made = c.in_ok-found.ensures.ok.made;
  tells = in_more (Clashes c.args.table.now c.args.values.now c.args.sources.now c.args.sets.now) c.args.values.now c.loop-first.first-index c.first-item.result (omega arith) c.first-item.is
      c.loop-first.invariant.tells c.in_ok-one.ensures.tells c.in_ok-found.ensures.ok.members;
}

pub clash_of-requires-clause-place : goal.clash_of-requires-clause-place
clash_of-requires-clause-place c =
    within_at (λ (v : Placed). v.0.0 < length c.args.table.now) c.args.values.now c.loop-first.first-index c.first-item.result c.requires.places (omega arith) c.first-item.is
