use Rattle.std.proofs.Common.{◌≡◌, ◌<◌, List, length, get_or, subst, arith}
use Rattle.lfg_model.specs.Terms.{Path}
use Rattle.lfg_context.proofs.Growing.{grown_trans, same_picks_trans, are_made_grown, made_at}
use Rattle.lfg_unify.specs.Closures.{Row, closure_at}
use Rattle.lfg_constrain.specs.Spots.{Follows, Joins}
use Rattle.lfg_constrain.proofs.WalkLaws.{some_more}
use Rattle.lfg_constrain.proofs.walks.reached.Goals as goal

pub loop-path-preserved : goal.loop-path-preserved
loop-path-preserved c =
    let e = c.list-path-items.ensures in
    let A : List Path → Type 0 = λ v. c.loop-path.path-index < length v in
    let B : List Path → Type 0 = λ v. c.path-item.result ≡ get_or v c.loop-path.path-index c.path-item.result in
    let F : Path → Type 0 = λ v. Follows c.args.closure.now c.args.way.now.start c.args.set.now v c.in_ok-spots.spots.items in
    let J : Row → Type 0 = λ v. Joins c.loop-path.found.items v c.join.new.spots.items in
    record {
      grown = grown_trans (grown_trans c.loop-path.invariant.grown c.in_ok-spots.ensures.grown) c.join.ensures.grown;
      picks = same_picks_trans (same_picks_trans c.loop-path.invariant.picks c.in_ok-spots.ensures.picks) c.join.ensures.picks;
      spots = c.in_ok-join.ensures.spots;
      follows = some_more c.args.closure.now c.args.way.now.start c.args.set.now c.args.way.now.paths c.loop-path.path-index c.path-item.result c.loop-path.found.items c.in_ok-spots.spots.items c.join.new.spots.items
          (subst A e (omega arith)) (subst B e c.path-item.is) c.loop-path.invariant.follows (subst F c.list.ensures c.in_ok-spots.ensures.follows) (subst J c.deref.ensures.value c.in_ok-join.ensures.joins);
    }
