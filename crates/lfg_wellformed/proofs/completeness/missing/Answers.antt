use Rattle.std.proofs.Common.{◌<◌, length, subst, arith}
use Rattle.lfg_context.proofs.Growing.{grown_trans, same_picks_trans, are_made_grown, made_at}
use Rattle.lfg_context.proofs.Telling.{in_more, of_more}
use Rattle.lfg_model.specs.Terms.{Name}
use Rattle.lfg_context.specs.Telling.{Tells, InSome}
use Rattle.lfg_wellformed.specs.Asked.{HasArcBy, IsFilling, NeedsFilled, NeedsArc}
use Rattle.lfg_wellformed.proofs.AskedLaws.{needs_filled, needs_arc, completes_arc}
use Rattle.lfg_wellformed.proofs.completeness.missing.Goals as goal

pub loop-name-preserved : goal.loop-name-preserved
loop-name-preserved c =
    let P : Name → Type 0 = λ v. Tells c.in_ok-has.has (HasArcBy c.args.closure.now c.args.place v) in
    record {
      grown = grown_trans (grown_trans (grown_trans c.loop-name.invariant.grown c.in_ok-has.ensures.grown) c.in_ok-lacks.ensures.grown) c.in_ok-found.ensures.grown;
      picks = same_picks_trans (same_picks_trans (same_picks_trans c.loop-name.invariant.picks c.in_ok-has.ensures.picks) c.in_ok-lacks.ensures.picks) c.in_ok-found.ensures.picks;
      made = c.in_ok-found.ensures.ok.made;
      tells = of_more (NeedsArc c.args.closure.now c.args.place c.args.set.now) c.args.names.now c.loop-name.name-index c.name-item.result (omega arith) c.name-item.is c.loop-name.invariant.tells
          (needs_arc c.args.closure.now c.args.place c.args.set.now c.in_ok-has.has c.in_ok-lacks.lacks c.name-item.result (subst P c.text.ensures c.in_ok-has.ensures.tells) c.in_ok-lacks.ensures.ok.members) c.in_ok-found.ensures.ok.members;
    }
