use Rattle.std.proofs.Common.{◌<◌, length, arith}
use Rattle.lfg_context.proofs.Growing.{grown_trans, same_picks_trans, are_made_grown, made_at}
use Rattle.lfg_context.proofs.Telling.{in_more, of_more}
use Rattle.lfg_wellformed.proofs.Classes.{some_closure_grown, value_at, arc_at, member_at}
use Rattle.lfg_wellformed.specs.Asked.{LeadsBy, IsMemberIn, IsFilling, NeedsFilled, NeedsArc, CompletesValue, CompletesArc, NamesAt, IsNaming, CoheresAt}
use Rattle.lfg_wellformed.proofs.coherence.governed.Goals as goal

pub naming-requires-clause-arc : goal.naming-requires-clause-arc
naming-requires-clause-arc c =
    arc_at c.arcs-arcs.result.now c.loop-number.number c.index-arcs-number.result (some_closure_grown c.loop-number.invariant.grown c.requires.closure) c.arcs-arcs.ensures (omega arith) c.index-arcs-number.is

pub loop-number-preserved : goal.loop-number-preserved
loop-number-preserved c = record {
  grown = grown_trans (grown_trans c.loop-number.invariant.grown c.in_ok-one.ensures.grown) c.in_ok-found.ensures.grown;
  picks = same_picks_trans (same_picks_trans c.loop-number.invariant.picks c.in_ok-one.ensures.picks) c.in_ok-found.ensures.picks;
  made = c.in_ok-found.ensures.ok.made;
  tells = in_more (IsNaming c.args.closure.now c.args.place c.args.function.now) c.arcs-arcs.result.now c.loop-number.number c.index-arcs-number.result (omega arith) c.index-arcs-number.is c.loop-number.invariant.tells
      (c.in_ok-one.ensures.tells) c.in_ok-found.ensures.ok.members;
}
