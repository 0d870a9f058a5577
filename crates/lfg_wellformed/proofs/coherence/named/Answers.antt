use Rattle.std.proofs.Common.{◌<◌, length, arith}
use Rattle.lfg_context.proofs.Growing.{grown_trans, same_picks_trans, are_made_grown, made_at}
use Rattle.lfg_context.proofs.Telling.{in_more, of_more}
use Rattle.lfg_wellformed.proofs.Classes.{some_closure_grown, value_at, arc_at, member_at}
use Rattle.lfg_wellformed.specs.Asked.{LeadsBy, IsMemberIn, IsFilling, NeedsFilled, NeedsArc, CompletesValue, CompletesArc, NamesAt, IsNaming, CoheresAt}
use Rattle.lfg_wellformed.proofs.coherence.named.Goals as goal

pub named_by-requires-clause-value : goal.named_by-requires-clause-value
named_by-requires-clause-value c =
    value_at c.values-values.result.now c.loop-number.number c.index-values-number.result (some_closure_grown c.loop-number.invariant.grown c.requires.closure) c.values-values.ensures (omega arith) c.index-values-number.is

pub loop-number-preserved : goal.loop-number-preserved
loop-number-preserved c = record {
  grown = grown_trans (grown_trans c.loop-number.invariant.grown c.in_ok-one.ensures.grown) c.in_ok-found.ensures.grown;
  picks = same_picks_trans (same_picks_trans c.loop-number.invariant.picks c.in_ok-one.ensures.picks) c.in_ok-found.ensures.picks;
  made = c.in_ok-found.ensures.ok.made;
  tells = in_more (NamesAt c.args.closure.now c.args.place c.args.function.now) c.values-values.result.now c.loop-number.number c.index-values-number.result (omega arith) c.index-values-number.is c.loop-number.invariant.tells
      (c.in_ok-one.ensures.tells) c.in_ok-found.ensures.ok.members;
}
