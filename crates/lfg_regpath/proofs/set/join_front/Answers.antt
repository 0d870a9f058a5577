use Rattle.std.proofs.Common.{arith}
use Rattle.std.proofs.lemmas.Result.{err_from_is_err_and}
use Rattle.lfg_regpath.proofs.SetLaws.{backs_none, backs_step, backs_stop}
use Rattle.lfg_regpath.proofs.set.join_front.Goals as goal

pub loop-back-init : goal.loop-back-init
loop-back-init c = backs_none c.args.set.now.items c.args.front.now c.args.limit c.requires

pub returns-in_err-join_pair-clause-full : goal.returns-in_err-join_pair-clause-full
returns-in_err-join_pair-clause-full c =
    let p = err_from_is_err_and c.from_residual.result c.from_residual.ensures.1 in
    rw (p.1, p.2) (backs_stop c.args.set.now.items c.args.backs.now c.args.front.now c.args.limit c.loop-back.back-index c.back-item.result c.in_err-join_pair.field-0.0 (omega arith) c.back-item.is c.loop-back.invariant c.in_err-join_pair.ensures.full)

pub loop-back-preserved : goal.loop-back-preserved
loop-back-preserved c =
    backs_step c.args.set.now.items c.args.backs.now c.args.front.now c.args.limit c.loop-back.back-index c.back-item.result (omega arith) c.back-item.is c.loop-back.invariant c.in_ok-join_pair.ensures.added
