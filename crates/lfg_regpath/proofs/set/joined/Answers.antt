use Rattle.std.proofs.Common.{arith}
use Rattle.std.proofs.lemmas.Result.{err_from_is_err_and}
use Rattle.lfg_regpath.proofs.SetLaws.{fronts_none, fronts_step, fronts_stop}
use Rattle.lfg_regpath.proofs.set.joined.Goals as goal

pub loop-front-init : goal.loop-front-init
loop-front-init c = rw c.new-set.ensures.items (fronts_none c.args.backs.now c.args.limit)

pub returns-in_err-join_front-clause-full : goal.returns-in_err-join_front-clause-full
returns-in_err-join_front-clause-full c =
    let p = err_from_is_err_and c.from_residual.result c.from_residual.ensures.1 in
    rw (p.1, p.2) (fronts_stop c.args.fronts.now c.args.backs.now c.args.limit c.loop-front.front-index c.front-item.result c.in_err-join_front.field-0.0 (omega arith) c.front-item.is c.loop-front.invariant c.in_err-join_front.ensures.full)

pub loop-front-preserved : goal.loop-front-preserved
loop-front-preserved c =
    fronts_step c.args.fronts.now c.args.backs.now c.args.limit c.loop-front.front-index c.front-item.result (omega arith) c.front-item.is c.loop-front.invariant c.in_ok-join_front.ensures.added
