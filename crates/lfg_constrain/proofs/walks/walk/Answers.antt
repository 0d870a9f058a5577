use Rattle.std.proofs.Common.{◌<◌, ◌≤◌, length, subst, arith}
use Rattle.lfg_unify.specs.Closures.{Row}
use Rattle.lfg_context.proofs.Growing.{grown_trans, same_picks_trans, are_made_grown, made_at}
use Rattle.lfg_constrain.specs.Spots.{Steps}
use Rattle.lfg_constrain.proofs.WalkLaws.{way_start, way_more, way_end}
use Rattle.lfg_constrain.proofs.walks.walk.Goals as goal

pub loop-name-init : goal.loop-name-init
loop-name-init c = record {
  grown = c.in_ok-spots.ensures.grown;
  picks = c.in_ok-spots.ensures.picks;
  spots = c.in_ok-spots.ensures.spots;
  way = way_start c.args.start.now c.args.set.now c.args.path.now c.in_ok-spots.spots.items c.requires.closure c.in_ok-spots.ensures.begins;
}

pub loop-name-preserved : goal.loop-name-preserved
loop-name-preserved c =
    let P : Row → Type 0 = λ v. Steps c.args.closure.now c.args.closure.now.arcs v c.name-item.result c.in_ok-spots-2.spots.items in
    record {
      grown = grown_trans c.loop-name.invariant.grown c.in_ok-spots-2.ensures.grown;
      picks = same_picks_trans c.loop-name.invariant.picks c.in_ok-spots-2.ensures.picks;
      spots = c.in_ok-spots-2.ensures.spots;
      way = way_more c.args.start.now c.args.set.now c.args.path.now c.loop-name.name-index c.name-item.result c.loop-name.spots.items c.in_ok-spots-2.spots.items c.requires.closure (omega arith) c.name-item.is
          c.loop-name.invariant.way (subst P c.deref.ensures.value c.in_ok-spots-2.ensures.steps);
    }

pub returns-clause-follows : goal.returns-clause-follows
returns-clause-follows c = way_end c.args.start.now c.args.set.now c.args.path.now c.loop-name.name-index c.loop-name.spots.items c.requires.closure (omega arith) c.loop-name.invariant.way
